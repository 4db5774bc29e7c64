use Rattle.mwc_states.proofs.Imports.{votes_of}
use Rattle.mwc_states.specs.Inner.Games.{AreNeedsOf}
use Rattle.mwc_states.proofs.count.needs.Given as goal

abbrev pub invariant-loop-way : goal.invariant-loop-way
invariant-loop-way l = AreNeedsOf (votes_of l.game) l.rows.items l.way
