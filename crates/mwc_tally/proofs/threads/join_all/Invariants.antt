use Rattle.std.proofs.Common.{◌≡◌, All}
use Rattle.std.specs.Vec.Iter.{into_iter_items}
use Rattle.mwc_tally.specs.Inner.SliceCounts.{AreThreadCounts}
use Rattle.mwc_tally.proofs.threads.join_all.Given as goal

abbrev pub invariant-loop-thread : goal.invariant-loop-thread
invariant-loop-thread g l = record {
  all : AreThreadCounts l.slices l.all;
  rest : All (λ t. t.promise ≡ l.slices) (into_iter_items l.thread-iterator);
}
