use Rattle.council_report.proofs.Imports.{◌≡◌, ◌+◌, ◌<◌, ◌≤◌, ℕ, length, slice_index}
use Rattle.council_report.proofs.subtotal.Subtotal.with.Given as goal

-- the weights under the rules before this one were added
abbrev pub invariant-loop-rule : goal.invariant-loop-rule
invariant-loop-rule l = record {
  long : length l.weights ≡ 4;
  done : (r : ℕ) → r < l.rule → slice_index l.weights r ≡ slice_index l.self.weights r + slice_index l.label.weights r;
  rest : (r : ℕ) → l.rule ≤ r → slice_index l.weights r ≡ slice_index l.self.weights r;
}
