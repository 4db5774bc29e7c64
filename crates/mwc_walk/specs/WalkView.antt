-- What a contract sees of a walk.
use Rattle.std.specs.Prelude.{ℕ, ◌-◌, List, length, take}
use Rattle.council_game.specs.Votes.{Votes}
use Rattle.mwc_walk.specs.Slices.{slice}

-- the votes of the game, the bits and the number of the slice, the coalitions that are still to
-- come, and the count of visits
pub record WalkView : Type 0 where
  pub votes : Votes
  pub bits : ℕ
  pub number : ℕ
  pub to_come : List ℕ
  pub visits : ℕ

-- how many coalitions of the slice were given: all but those to come
abbrev pub given_count : WalkView → ℕ
given_count w = length (slice w.votes w.bits w.number) - length w.to_come

-- the coalitions of the slice that were given, in their order
abbrev pub given : WalkView → List ℕ
given w = take (given_count w) (slice w.votes w.bits w.number)
