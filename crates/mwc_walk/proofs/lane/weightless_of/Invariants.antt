use Rattle.mwc_walk.proofs.Imports.{◌≡◌, ◌<◌, ◌≤◌, ℕ, false, slice_index, has}
use Rattle.std.proofs.Common.{◌==◌}
use Rattle.mwc_walk.proofs.lane.weightless_of.Given as goal

abbrev pub invariant-loop-place : goal.invariant-loop-place
invariant-loop-place l = record {
  done : (q : ℕ) → q < l.place → has l.members q l.none ≡ (slice_index l.weights q == 0);
  left : (q : ℕ) → l.place ≤ q → q < l.members → has l.members q l.none ≡ false;
}
