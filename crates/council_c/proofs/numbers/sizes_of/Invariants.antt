use Rattle.std.proofs.Common.{◌≡◌, ◌<◌, ◌≤◌, ℕ, get_or, length}
use Rattle.power_index.specs.Counting.{count_of_size}
use Rattle.council_c.specs.Numbers.{minimal_of}
use Rattle.council_c.proofs.numbers.sizes_of.Given as goal

abbrev pub invariant-loop-size : goal.invariant-loop-size
invariant-loop-size l = record {
  long : length l.of_size ≡ 41;
  rest : (k : ℕ) → l.size ≤ k → get_or l.of_size k 0 ≡ 0;
  done : (k : ℕ) → k < l.size → get_or l.of_size k 0 ≡ count_of_size l.game k (minimal_of l.game);
}
