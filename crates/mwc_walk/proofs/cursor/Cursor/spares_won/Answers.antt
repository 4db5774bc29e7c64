use Rattle.mwc_walk.proofs.Imports.{arith, below_more}
use Rattle.mwc_walk.proofs.Spared.{excess-are, kept-minimal, set-of, spared-won}
use Rattle.mwc_walk.proofs.cursor.Cursor.spares_won.Goals.{else-meets-via-then-meets+else-has_spared, else-meets-via-else-meets}
use Rattle.mwc_walk.proofs.cursor.Cursor.spares_won.Goals as goal

pub returns-then-has_spared-clause-some : goal.returns-then-has_spared-clause-some
returns-then-has_spared-clause-some c = λ _.
    let is = c.requires.is in
    let set = set-of is c.loop-way.way in
    spared-won is set (c.meets.ensures.met c.if-meets.true)
    (c.has_spared.ensures.some c.if-has_spared.true (excess-are is set c.excess-excess.result c.excess-excess.ensures))

pub loop-way-preserved : goal.loop-way-preserved
loop-way-preserved c = below_more _ _ c.loop-way.invariant (λ met. elim c.else-meets.branch [
  | else-meets-via-then-meets+else-has_spared w ↦ w.has_spared.ensures.none w.if-has_spared.false
  | else-meets-via-else-meets w ↦ absurd (c.meets.ensures.not w.if-meets.false met)
])

pub returns-clause-none : goal.returns-clause-none
returns-clause-none c = λ _.
    kept-minimal c.requires.is c.excess-excess.result c.excess-excess.ensures c.requires.won
    (λ k lt. c.loop-way.invariant k (omega (arith, lt, c.loop-way-test.false)))
