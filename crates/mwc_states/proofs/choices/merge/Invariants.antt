use Rattle.mwc_states.proofs.Imports.{◌≡◌, ℕ, All, IsWithin, take, worth}
use Rattle.mwc_states.proofs.choices.merge.Given as goal

abbrev pub invariant-loop-some : goal.invariant-loop-some
invariant-loop-some l = record {
  within : (rows most : ℕ) → All (IsWithin rows most) l.all → All (IsWithin rows most) l.list.items;
  sums : (value : ℕ → ℕ → ℕ) → worth l.list.items value ≡ worth (take l.some-index l.all) value;
}
