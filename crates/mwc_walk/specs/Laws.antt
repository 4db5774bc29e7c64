-- What the laws say of every game.
use Rattle.std.specs.Prelude.{ℕ, ◌^◌, ◌≡◌, ◌≤◌, All, Contains, List}
use Rattle.std.specs.List.{flat_map, range_with_len}
use Rattle.council_game.specs.declared.limits.TheConstants.{BITS}
use Rattle.council_game.specs.Votes.{Votes, minimal_coalitions}
use Rattle.mwc_walk.specs.Slices.{slice}

-- at up to 10 bits, and no more than members, the slices 0, 1, .., joined are the minimal winning
-- coalitions
abbrev pub SlicesMakeTheWhole : Votes → Type 0
SlicesMakeTheWhole v = (k : ℕ) → k ≤ BITS → k ≤ v.members →
    flat_map (slice v k) (range_with_len 0 (2 ^ k)) ≡ minimal_coalitions v

-- c is in the list, and has the least number f of all in it
pub record IsLeast (f : ℕ → ℕ) (list : List ℕ) (c : ℕ) : Type 0 where
  pub listed : Contains list c
  pub least : All (λ d. f c ≤ f d) list
