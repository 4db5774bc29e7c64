use Rattle.mwc_states.proofs.Imports.{◌≡◌, ℕ, ◌<◌, count_at, get_or, length, lists}
use Rattle.mwc_states.proofs.set_counts.sizes_of_root.Given as goal

abbrev pub invariant-loop-size : goal.invariant-loop-size
invariant-loop-size l = record {
  long : length l.all ≡ 41;
  each : (s : ℕ) → s < l.size → get_or l.all s 0 ≡ count_at (lists l.sizes) 0 s;
}
