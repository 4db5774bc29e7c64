-- The two indices over a list of coalitions of a game, as pairs.
use Rattle.std.specs.Prelude.{ℕ, ◌*◌, List, length, map, sum_by}
use Rattle.std.specs.List.{filter}
use Rattle.council_game.specs.Game.{GameView}
use Rattle.power_index.specs.Counting.{members, contains, size_of, count_of_member}
use Rattle.power_index.specs.Fractions.{unit_sum}

-- the sizes of those coalitions that contain member i
abbrev pub sizes_of_member : GameView → List ℕ → ℕ → List ℕ
sizes_of_member g list i = map (size_of g) (filter (contains g i) list)

-- the Deegan-Packel index of member i over a list: the sum of 1 / size over those that contain i,
-- divided by the length of the list
unfoldable pub deegan_packel : GameView → List ℕ → ℕ → ℕ × ℕ
deegan_packel g list i =
    let sum = unit_sum (sizes_of_member g list i) in (sum.0, sum.1 * length list)

-- the public good index of member i over a list: how many contain i, divided by the sum of these
-- numbers over all members
unfoldable pub public_good : GameView → List ℕ → ℕ → ℕ × ℕ
public_good g list i =
    (count_of_member g i list, sum_by (λ j. count_of_member g j list) (members g))
