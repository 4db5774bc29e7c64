use Rattle.mwc_states.proofs.Imports.{winning_coalitions}
use Rattle.mwc_states.proofs.count.count_swings.Given as goal

abbrev pub ghost-of_sizes : goal.ghost-of_sizes
ghost-of_sizes g a = winning_coalitions a.game.now
