use Rattle.mwc_states.proofs.Imports.{◌≡◌, ℕ, ◌-◌, ◌<◌, ◌≤◌, accepts, count_at, count_sets, drop, length, lists, rows_at}
use Rattle.mwc_states.proofs.set_counts.complete.Given as goal

abbrev pub invariant-loop-size : goal.invariant-loop-size
invariant-loop-size l = record {
  long : length l.sizes.items ≡ length l.initial.sizes.items;
  same : (k s : ℕ) → s < l.size → count_at (lists l.sizes.items) k s ≡ count_at (lists l.fn.sizes.items) k s;
  each : (k s : ℕ) → l.size ≤ s → k < rows_at (lists l.levels) l.level
      → count_at (lists l.sizes.items) k s ≡ count_sets (length (lists l.levels) - l.level) (accepts (drop l.level (lists l.levels)) k) s;
}
