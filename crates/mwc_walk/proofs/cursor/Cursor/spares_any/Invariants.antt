use Rattle.mwc_walk.proofs.Imports.{votes_of, Tried}
use Rattle.mwc_walk.proofs.cursor.Cursor.spares_any.Given as goal

abbrev pub invariant-loop-rest : goal.invariant-loop-rest
invariant-loop-rest l = Tried (votes_of l.game) l.set l.self.place l.self.prefix l.excess l.rest

abbrev pub decreases-loop-rest : goal.decreases-loop-rest
decreases-loop-rest l = l.rest
