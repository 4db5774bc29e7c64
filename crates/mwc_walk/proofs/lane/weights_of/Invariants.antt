use Rattle.mwc_walk.proofs.Imports.{◌≡◌, ◌<◌, ℕ, length, slice_index, votes_of, rule_at}
use Rattle.mwc_walk.proofs.lane.weights_of.Given as goal

abbrev pub invariant-loop-place : goal.invariant-loop-place
invariant-loop-place l = record {
  long : length l.weights ≡ 40;
  made : (p : ℕ) → p < l.place → slice_index l.weights p ≡ slice_index (rule_at (votes_of l.game).rules l.rule).weights p;
}
