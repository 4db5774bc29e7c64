use Rattle.std.specs.List.{range_with_len}
use Rattle.mwc_tally.specs.Inner.SliceCounts.{CountSlices}
use Rattle.mwc_tally.proofs.threads.one_by_one.Given as goal

abbrev pub invariant-loop-slice : goal.invariant-loop-slice
invariant-loop-slice g l = CountSlices l.slices (range_with_len 0 l.slice) l.counts.value
