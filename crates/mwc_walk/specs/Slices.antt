-- The slices of the list of minimal winning coalitions.
use Rattle.std.specs.Prelude.{ℕ, ◌-◌, ◌/◌, ◌^◌, ◌==◌, List}
use Rattle.std.specs.List.{filter}
use Rattle.council_game.specs.Votes.{Votes, minimal_coalitions}

-- the minimal winning coalitions of slice j at k bits, in listing order: their first k places, read
-- as a number, are 2^k - 1 - j; those of slice 0 have the k heaviest members all in
unfoldable pub slice : Votes → ℕ → ℕ → List ℕ
slice v k j = filter (λ c. c / 2 ^ (v.members - k) == 2 ^ k - 1 - j) (minimal_coalitions v)
