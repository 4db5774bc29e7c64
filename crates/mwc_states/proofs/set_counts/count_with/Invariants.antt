use Rattle.mwc_states.proofs.Imports.{◌≡◌, ℕ, ◌<◌, get_or, length, lists, worth, with_fewer}
use Rattle.mwc_states.proofs.set_counts.count_with.Given as goal

abbrev pub invariant-loop-more : goal.invariant-loop-more
invariant-loop-more l = record {
  long : length l.sizes ≡ 41;
  each : (s : ℕ) → s < 41 → get_or l.sizes s 0 ≡ worth l.choices (with_fewer l.links.items (lists l.completing) l.more s);
}
