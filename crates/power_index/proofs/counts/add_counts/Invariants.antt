use Rattle.std.proofs.Common.{◌≡◌, ℕ, ◌+◌, ◌<◌, ◌≤◌, length, get_or}
use Rattle.power_index.proofs.counts.add_counts.Given as goal

abbrev pub invariant-loop-size : goal.invariant-loop-size
invariant-loop-size l = record {
  long : length l.sum ≡ 41;
  done : (s : ℕ) → s < l.size → get_or l.sum s 0 ≡ get_or l.initial.sum s 0 + get_or l.more s 0;
  rest : (s : ℕ) → l.size ≤ s → get_or l.sum s 0 ≡ get_or l.initial.sum s 0;
}
