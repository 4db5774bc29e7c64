-- Where the slices of a part end.
use Rattle.std.specs.Prelude.{◌≡◌, ℕ, ◌<◌, ◌≤◌, List, ◌∷◌, length, slice_index}

-- where the slices of a row of `count` coalitions end: there is one end for each, the last is the
-- end of the row, and they never fall
abbrev pub HasEnds : List ℕ → List ℕ → ℕ → Type 0
HasEnds slices ends count = (length ends ≡ length slices) × (slice_index (0 ∷ ends) (length ends) ≡ count)
    × ((m : ℕ) → m < length ends → (slice_index (0 ∷ ends) m ≤ slice_index ends m) × (slice_index ends m ≤ count))
