use Rattle.mwc_states.proofs.Imports.{◌≡◌, ℕ, ◌+◌, ◌<◌, ◌≤◌, All, IsWithin, get_or, link_at, take, worth}
use Rattle.mwc_states.proofs.choices.follow.Given as goal

abbrev pub invariant-loop-some : goal.invariant-loop-some
invariant-loop-some l = record {
  within : (rows most : ℕ) → ((k : ℕ) → get_or l.links.items k 0 < rows) → All (λ some. some.size + l.choice ≤ most) l.choices
      → All (IsWithin rows most) l.initial.all.items → All (IsWithin rows most) l.all.items;
  adds : (value : ℕ → ℕ → ℕ) → worth l.all.items value ≡ worth l.initial.all.items value
      + worth (take l.some-index l.choices) (λ row size. value (link_at l.links.items row l.choice) (size + l.choice));
}
