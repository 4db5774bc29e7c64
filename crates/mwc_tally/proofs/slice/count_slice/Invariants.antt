use Rattle.std.proofs.Common.{length}
use Rattle.mwc_tally.specs.Inner.SliceCounts.{CountedUpTo, slice_of}
use Rattle.mwc_tally.proofs.slice.count_slice.Given as goal

abbrev pub invariant-loop-coalition : goal.invariant-loop-coalition
invariant-loop-coalition g l = CountedUpTo l.slices.game.now (slice_of l.slices l.j) l.walk.to_come l.counts

abbrev pub decreases-loop-coalition : goal.decreases-loop-coalition
decreases-loop-coalition g l = length l.walk.to_come
