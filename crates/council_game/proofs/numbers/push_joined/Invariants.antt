use Rattle.std.proofs.Common.{◌≡◌, ◌++◌, ◌≤◌, ℕ, List, length, take, Vec, Global, vec_capacity}
use Rattle.council_game.specs.{Front.StaysInFront, Joined.joined_numbers, Joined.GivesEach}
use Rattle.council_game.proofs.numbers.push_joined.Given as goal

-- the first r values are there, and the room stays or grows
pub record FirstPut (gives : ℕ → ℕ → Type 0) (count : ℕ) (separator : List ℕ) (old new : Vec ℕ Global) (r : ℕ) : Type 0 where
  pub items : (vs : List ℕ) → length vs ≡ count → GivesEach gives vs → new.items ≡ old.items ++ joined_numbers separator (take r vs)
  pub front : StaysInFront old.items new.items
  pub capacity : vec_capacity old ≤ vec_capacity new

abbrev pub invariant-loop-r : goal.invariant-loop-r
invariant-loop-r g l = FirstPut (goal.F-post g l.value) l.count l.separator l.initial.out l.out l.r
