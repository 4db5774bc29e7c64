-- Coalitions as numbers: their members, and how many these are.
use Rattle.std.specs.Prelude.{ℕ, ◌+◌, ◌-◌, ◌/◌, ◌%◌, ◌^◌, Bool, ◌==◌, List, length}
use Rattle.std.specs.List.{filter, range_with_len}

-- in a game of n members, place p is in c if this binary digit of c is 1
unfoldable pub has : ℕ → ℕ → ℕ → Bool
has n p c = c / 2 ^ (n - 1 - p) % 2 == 1

-- c together with place p, which is not in c
unfoldable pub with_member : ℕ → ℕ → ℕ → ℕ
with_member n p c = c + 2 ^ (n - 1 - p)

-- c without place p, which is in c
unfoldable pub without : ℕ → ℕ → ℕ → ℕ
without n p c = c - 2 ^ (n - 1 - p)

-- the places that are in c, the heaviest first
abbrev pub places_of : ℕ → ℕ → List ℕ
places_of n c = filter (λ p. has n p c) (range_with_len 0 n)

-- how many places are in c
abbrev pub size : ℕ → ℕ → ℕ
size n c = length (places_of n c)
