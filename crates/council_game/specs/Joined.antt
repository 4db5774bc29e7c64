-- Numbers in a row, as bytes.
use Rattle.std.specs.Prelude.{ℕ, List, ◌≡◌, ◌<◌, length, decimal, slice_index}
use Rattle.std.specs.List.{join_by}

-- numbers in decimal, with the separator between each two
abbrev pub joined_numbers : List ℕ → List ℕ → List ℕ
joined_numbers separator numbers = join_by decimal separator numbers

-- what `gives` relates r to is entry r of the list, for each r below its length
abbrev pub GivesEach : (ℕ → ℕ → Type 0) → List ℕ → Type 0
GivesEach gives numbers = (r v : ℕ) → r < length numbers → gives r v → v ≡ slice_index numbers r
