use Rattle.mwc_states.proofs.Imports.{votes_of, minimal_coalitions}
use Rattle.mwc_states.proofs.count.count_by_states.Given as goal

abbrev pub ghost-of_sizes : goal.ghost-of_sizes
ghost-of_sizes g a = minimal_coalitions (votes_of a.game.now)
