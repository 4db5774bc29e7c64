use Rattle.mwc_states.proofs.{Imports.arith, Merging.lowered-more}
use Rattle.mwc_states.proofs.sums.keep_least.Goals as goal

pub loop-k-preserved : goal.loop-k-preserved
loop-k-preserved c = lowered-more c.index.result.now c.index-in-loop-k.result.now c.min.result c.loop-k.invariant (omega arith) (omega (arith, c.loop-k.invariant.long))
    c.index.ensures c.index-in-loop-k.ensures c.min.ensures
