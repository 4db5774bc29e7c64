-- Tables of counts, and when they hold the counts of a list of coalitions: what only proofs and
-- private functions need.
use Rattle.std.specs.Prelude.{ℕ, ◌≡◌, ◌+◌, ◌^◌, ◌≤◌, ◌<◌, List, [], length, slice_index, slice_index_or, slice_set}
use Rattle.council_game.specs.declared.limits.TheConstants.{MEMBERS, SIZES}
use Rattle.council_game.specs.Game.{GameView, AreNonemptyCoalitions}
use Rattle.power_index.specs.Tables.{Tables, AreTallies, AreSound}

-- numbers by size with one coalition more, of size s
abbrev pub with_one : List ℕ → ℕ → List ℕ
with_one sizes s = slice_set sizes s (slice_index sizes s + 1)

-- the numbers by size are those of two others, added
pub record AreAdded (xs ys sum : List ℕ) : Type 0 where
  pub long : length sum ≡ SIZES
  pub each : (s : ℕ) → s ≤ MEMBERS → slice_index sum s ≡ slice_index xs s + slice_index ys s

-- the tables are those of some list of coalitions of a game: no game has more than 2 ^ 40
pub record AreOfSomeList (t : Tables) : Type 0 where
  pub game : GameView
  pub list : List ℕ
  pub coalitions : AreNonemptyCoalitions game list
  pub few : length list ≤ 2 ^ MEMBERS
  pub tallies : AreTallies game list t

-- what all counts keep
pub record AreKept (t : Tables) : Type 0 where
  pub of_some : AreOfSomeList t
  pub sound : AreSound t
  pub places : (i : ℕ) → i < t.members → slice_index t.ranks i < t.members
  pub all_few : (s : ℕ) → s ≤ MEMBERS → slice_index t.all s ≤ 2 ^ MEMBERS
  pub each_few : (p s : ℕ) → p < t.members → s ≤ MEMBERS →
      slice_index (slice_index_or t.each p []) s ≤ 2 ^ MEMBERS
