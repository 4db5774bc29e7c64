use Rattle.mwc_walk.proofs.Imports.{arith, below_more}
use Rattle.mwc_walk.proofs.Spared.{nothing-meets, reached-by}
use Rattle.mwc_walk.proofs.cursor.Cursor.has_nothing_below.Goals as goal

pub returns-then-not-bars-clause-can : goal.returns-then-not-bars-clause-can
returns-then-not-bars-clause-can c = λ _. reached-by c.requires.is c.loop-way.way c.loop-way-test.true (c.bars.ensures.can c.if-not-bars.true)

pub loop-way-preserved : goal.loop-way-preserved
loop-way-preserved c = below_more _ _ c.loop-way.invariant (c.bars.ensures.none c.if-not-bars.false)

pub returns-clause-none : goal.returns-clause-none
returns-clause-none c = λ _. nothing-meets c.requires.is (λ k lt. c.loop-way.invariant k (omega (arith, lt, c.loop-way-test.false)))
