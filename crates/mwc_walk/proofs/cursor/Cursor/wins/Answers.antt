use Rattle.mwc_walk.proofs.Imports.{arith, below_more, sym}
use Rattle.mwc_walk.proofs.Spared.{won-by, lost-by-all}
use Rattle.mwc_walk.proofs.cursor.Cursor.wins.Goals as goal

pub returns-then-meets : goal.returns-then-meets
returns-then-meets c = sym (won-by c.requires c.loop-way.way c.loop-way-test.true (c.meets.ensures.met c.if-meets.true))

pub loop-way-preserved : goal.loop-way-preserved
loop-way-preserved c = below_more _ _ c.loop-way.invariant (c.meets.ensures.not c.if-meets.false)

pub returns : goal.returns
returns c = sym (lost-by-all c.requires (λ k lt. c.loop-way.invariant k (omega (arith, lt, c.loop-way-test.false))))
