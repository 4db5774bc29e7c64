use Rattle.mwc_walk.proofs.cursor.Cursor.spares_one.Goals.{then-rules-eq1, else-rules-eq1}
use Rattle.mwc_walk.proofs.Steps.{one-is, last-in}
use Rattle.mwc_walk.proofs.Imports.{sym, ◌∙◌, arith, eqb-true}
use Rattle.mwc_walk.proofs.cursor.Cursor.spares_one.Goals as goal

pub returns-then-self-eq0-clause-passes : goal.returns-then-self-eq0-clause-passes
returns-then-self-eq0-clause-passes c = (
  λ z. cc,
  λ _ won. elim c.if-rules-eq1.branch [
    | then-rules-eq1 w ↦ one-is c.requires.is won c.if-self.true (sym c.requires.rules ∙ w.if-rules-eq1.true)
    | else-rules-eq1 w ↦
        absurd (omega (arith, last-in c.requires.is won c.if-self.true, eqb-true _ _ (sym w.value-is ∙ c.if-self-eq0.true)))
  ],
)
