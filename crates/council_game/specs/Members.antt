-- The members of a game, and of a coalition of it.
use Rattle.std.specs.Prelude.{ℕ, Bool, true, List, length, slice_index, ◌≡◌, ◌<◌}
use Rattle.council_game.specs.Votes.{has, size}
use Rattle.council_game.specs.Ranks.{places}
use Rattle.council_game.specs.Game.{GameView}

-- the members of a game: 0, 1, ..
abbrev pub members : GameView → List ℕ
members g = places g.names

-- coalition c contains member i
abbrev pub contains : GameView → ℕ → ℕ → Bool
contains g i c = has (length g.names) (slice_index g.ranks i) c

-- how many members coalition c has
abbrev pub size_of : GameView → ℕ → ℕ
size_of g c = size (length g.names) c

-- coalition c of game g has the members of coalition d of game h
abbrev pub HaveSameMembers : GameView → GameView → ℕ → ℕ → Type 0
HaveSameMembers g h c d = (i : ℕ) → i < length g.names → contains g i c ≡ contains h i d

-- each member of coalition a is a member of coalition c
abbrev pub IsSubsetOf : GameView → ℕ → ℕ → Type 0
IsSubsetOf g a c = (i : ℕ) → i < length g.names → contains g i a ≡ true → contains g i c ≡ true
