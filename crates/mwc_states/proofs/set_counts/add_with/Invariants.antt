use Rattle.mwc_states.proofs.Imports.{◌≡◌, ℕ, ◌+◌, ◌<◌, get_or, length, take, worth, with_later}
use Rattle.mwc_states.proofs.set_counts.add_with.Given as goal

abbrev pub invariant-loop-some : goal.invariant-loop-some
invariant-loop-some l = record {
  long : length l.sizes ≡ 41;
  each : (s : ℕ) → s < 41
      → get_or l.sizes s 0 ≡ get_or l.initial.sizes s 0 + worth (take l.some-index l.choices) (with_later l.links.items l.counts l.more s);
}
