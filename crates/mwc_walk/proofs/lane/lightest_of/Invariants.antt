use Rattle.mwc_walk.proofs.Imports.{◌≡◌, ◌<◌, ◌≤◌, ℕ, length, slice_index}
use Rattle.mwc_walk.proofs.lane.lightest_of.Given as goal

abbrev pub invariant-loop-place : goal.invariant-loop-place
invariant-loop-place l = record {
  long : length l.lightest ≡ 40;
  least : (q : ℕ) → q < l.place → slice_index l.weights q < l.least → slice_index l.weights q ≡ 0;
  made : (p q : ℕ) → p < l.place → q ≤ p → slice_index l.weights q < slice_index l.lightest p → slice_index l.weights q ≡ 0;
}
