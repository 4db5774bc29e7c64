use Rattle.council_report.proofs.Imports.{◌≡◌, ◌<◌, ◌≤◌, ℕ, length, slice_index, weights_under}
use Rattle.council_report.proofs.label.weights_at.Given as goal

-- the weights under the rules before this one are there, and the others are 0
abbrev pub invariant-loop-rule : goal.invariant-loop-rule
invariant-loop-rule l = record {
  long : length l.weights ≡ 4;
  done : (r : ℕ) → r < l.rule → slice_index l.weights r ≡ slice_index (weights_under l.game r) l.place;
  rest : (r : ℕ) → l.rule ≤ r → slice_index l.weights r ≡ 0;
}
