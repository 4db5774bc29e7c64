use Rattle.mwc_walk.proofs.Imports.{votes_of, Tried}
use Rattle.mwc_walk.proofs.cursor.Cursor.may_be_spared.Given as goal

abbrev pub invariant-loop-rule : goal.invariant-loop-rule
invariant-loop-rule l = Tried (votes_of l.game) l.set l.self.place l.self.prefix l.excess l.few
