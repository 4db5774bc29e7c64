-- Winning coalitions and swings, in the terms of Felsenthal and Machover (1998).
use Rattle.std.specs.Prelude.{ℕ, ◌^◌, ◌==◌, ◌&&◌, Bool, List, length, not, slice_index, sum_by}
use Rattle.std.specs.List.{filter}
use Rattle.council_game.specs.Game.{GameView, IsGame, votes_of}
use Rattle.council_game.specs.Members.{contains, members, size_of}
use Rattle.council_game.specs.Votes.{down, wins, without}
use Rattle.power_index.specs.Tables.{AreCounts, Tables}

-- all coalitions of a game, each a number
abbrev pub coalitions : GameView → List ℕ
coalitions g = down (2 ^ length g.names)

-- those that win
unfoldable pub winning_coalitions : GameView → List ℕ
winning_coalitions g = filter (wins (votes_of g)) (coalitions g)

-- member i is in coalition c, which wins, and loses without it
abbrev pub is_critical : GameView → ℕ → ℕ → Bool
is_critical g c i =
    (contains g i c && wins (votes_of g) c)
    && not (wins (votes_of g) (without (length g.names) (slice_index g.ranks i) c))

-- the swings of member i: how many coalitions it is critical in
unfoldable pub swings : GameView → ℕ → ℕ
swings g i = length (filter (λ c. is_critical g c i) (coalitions g))

-- and how many of these have s members
unfoldable pub swings_of_size : GameView → ℕ → ℕ → ℕ
swings_of_size g i s = length (filter (λ c. is_critical g c i && (size_of g c == s)) (coalitions g))

-- the swings of all members
abbrev pub all_swings : GameView → ℕ
all_swings g = sum_by (swings g) (members g)

-- the tables hold the counts of a game's winning coalitions
abbrev pub AreWinningCounts : GameView → Tables → Type 0
AreWinningCounts g t = AreCounts g (winning_coalitions g) t

-- they are those of some game
pub record AreOfSomeGame (t : Tables) : Type 0 where
  pub game : GameView
  pub is_game : IsGame game
  pub counts : AreWinningCounts game t
