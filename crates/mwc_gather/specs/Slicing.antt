-- A game that is cut into slices.
use Rattle.std.specs.Prelude.{ℕ, ◌^◌, List}
use Rattle.council_game.specs.Game.{GameView, votes_of}
use Rattle.mwc_walk.specs.Slices.{slice}

-- how many slices there are, and the coalitions of each, in order
pub record Slicing : Type 0 where
  pub slices : ℕ
  pub slice : ℕ → List ℕ

-- the slices of a game at `bits` bits
abbrev pub slicing : GameView → ℕ → Slicing
slicing game bits = record { slices = 2 ^ bits; slice = slice (votes_of game) bits }
