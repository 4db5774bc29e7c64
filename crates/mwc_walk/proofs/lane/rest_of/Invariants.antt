use Rattle.mwc_walk.proofs.Imports.{◌≡◌, ◌<◌, ◌≤◌, ◌^◌, ℕ, length, slice_index, sum, take, drop}
use Rattle.mwc_walk.proofs.lane.rest_of.Given as goal

abbrev pub invariant-loop-place : goal.invariant-loop-place
invariant-loop-place l = record {
  long : length l.rest ≡ 41;
  made : sum (take l.members l.weights) < 2 ^ 64 → (q : ℕ) → l.place ≤ q → q ≤ l.members
      → slice_index l.rest q ≡ sum (drop q (take l.members l.weights));
}
