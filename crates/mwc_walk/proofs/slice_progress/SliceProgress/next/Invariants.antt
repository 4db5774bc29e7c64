use Rattle.std.proofs.Common.{◌≡◌}
use Rattle.mwc_walk.specs.Seeks.{seeks_left}
use Rattle.mwc_walk.proofs.slice_progress.SliceProgress.next.Given as goal

abbrev pub invariant-seeks : goal.invariant-seeks
invariant-seeks g l = l.walk.to_come ≡ l.initial.walk.to_come

abbrev pub decreases-seeks : goal.decreases-seeks
decreases-seeks g l = seeks_left l.walk
