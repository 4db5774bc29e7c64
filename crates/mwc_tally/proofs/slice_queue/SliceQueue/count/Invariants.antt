use Rattle.mwc_tally.specs.Inner.SliceCounts.{AreThreadCounts}
use Rattle.mwc_tally.proofs.slice_queue.SliceQueue.count.Given as goal

abbrev pub invariant-loop : goal.invariant-loop
invariant-loop g l = AreThreadCounts l.slices l.totals
