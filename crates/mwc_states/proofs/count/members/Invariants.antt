use Rattle.mwc_states.proofs.Imports.{votes_of, AreRowsOf}
use Rattle.mwc_states.proofs.count.members.Given as goal

abbrev pub invariant-loop-place : goal.invariant-loop-place
invariant-loop-place l = AreRowsOf (votes_of l.game).rules l.rows.items l.place
