-- What stays if a text is put after it.
use Rattle.std.specs.Prelude.{◌≡◌, ℕ, List, ◌++◌}

-- the bytes that were there stand in front of those that are there now
abbrev pub StaysInFront : List ℕ → List ℕ → Type 0
StaysInFront old new = (more : List ℕ) × (new ≡ old ++ more)
