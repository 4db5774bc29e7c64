-- The list of all minimal winning coalitions of a game.
use Rattle.std.specs.Prelude.{◌≡◌, ℕ, ◌≤◌, ◌<◌, ◌^◌, List, length, Contains, true}
use Rattle.council_game.specs.Votes.{Votes, minimal, minimal_coalitions}
use Rattle.council_game.specs.Game.{GameView, AreNonemptyCoalitions, votes_of}

-- c is a minimal winning coalition, and in their list
pub record IsListed (v : Votes) (c : ℕ) : Type 0 where
  pub listed : Contains (minimal_coalitions v) c
  pub minimal : minimal v c ≡ true
  pub below : c < 2 ^ v.members

-- the list is all of them: there is one, there are at most `most`, and each is a coalition of the
-- game that is not empty
pub record ListsAll (g : GameView) (most : ℕ) (list : List ℕ) : Type 0 where
  pub all : list ≡ minimal_coalitions (votes_of g)
  pub some : 1 ≤ length list
  pub few : length list ≤ most
  pub coalitions : AreNonemptyCoalitions g list
