use Rattle.mwc_walk.proofs.{Imports.arith, Spared.tried-all}
use Rattle.mwc_walk.proofs.cursor.Cursor.has_spared.Goals as goal

pub returns-else-few-ne0-clause-none : goal.returns-else-few-ne0-clause-none
returns-else-few-ne0-clause-none c = λ _. tried-all c.may_be_spared-few.ensures (omega (arith, c.if-few-ne0.false))
