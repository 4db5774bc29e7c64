use Rattle.mwc_states.proofs.Imports.{◌≡◌, ℕ, ◌+◌, ◌<◌, false, get_or, link_at}
use Rattle.mwc_states.proofs.set_counts.complete_rows.Given as goal

abbrev pub invariant-loop-row : goal.invariant-loop-row
invariant-loop-row l = record {
  each : (k : ℕ) → k < l.row → get_or l.counts k 0 ≡ get_or l.without (link_at l.links.items k 0) 0 + get_or l.with (link_at l.links.items k 1) 0;
  none : l.any ≡ false → (k : ℕ) → k < l.row → get_or l.counts k 0 ≡ 0;
}
