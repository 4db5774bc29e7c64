use Rattle.mwc_walk.proofs.Imports.{votes_of, IsNeed}
use Rattle.mwc_walk.proofs.cursor.Cursor.need.Given as goal

abbrev pub invariant-loop-other : goal.invariant-loop-other
invariant-loop-other l = IsNeed (votes_of l.game) l.set l.self.place l.self.prefix l.rule l.need
