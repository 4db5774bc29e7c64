-- Counts of a list of coalitions of a game, by member and by size.
use Rattle.std.specs.Prelude.{ℕ, ◌==◌, ◌&&◌, List, length}
use Rattle.std.specs.List.{filter}
use Rattle.council_game.specs.Game.{GameView}
pub use Rattle.council_game.specs.Members.{members, contains, size_of}

-- how many coalitions of a list have size s
abbrev pub count_of_size : GameView → ℕ → List ℕ → ℕ
count_of_size g s list = length (filter (λ c. size_of g c == s) list)

-- how many contain member i
abbrev pub count_of_member : GameView → ℕ → List ℕ → ℕ
count_of_member g i list = length (filter (contains g i) list)

-- how many contain member i and have size s
abbrev pub count_of_member_size : GameView → ℕ → ℕ → List ℕ → ℕ
count_of_member_size g i s list = length (filter (λ c. contains g i c && (size_of g c == s)) list)
