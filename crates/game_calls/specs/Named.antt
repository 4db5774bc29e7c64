-- Members by their names.
use Rattle.std.specs.Prelude.{ℕ, Bool, true, false, List, Option, Some, None, nat_eq, position}
use Rattle.std.specs.Cmp.Lexicographic.{pointwise}
use Rattle.council_game.specs.Game.{GameView}

-- the member with this name, if there is one
abbrev pub member_named : GameView → List ℕ → Option ℕ
member_named g name = position (pointwise nat_eq name) g.names

abbrev pub is_that : ℕ → Option ℕ → Bool
is_that i None = false
is_that i (Some j) = nat_eq i j

abbrev pub is_nobody : Option ℕ → Bool
is_nobody None = true
is_nobody (Some j) = false

-- member i has this name
abbrev pub is_named : GameView → ℕ → List ℕ → Bool
is_named g i name = is_that i (member_named g name)

-- no member has this name
abbrev pub is_unnamed : GameView → List ℕ → Bool
is_unnamed g name = is_nobody (member_named g name)
