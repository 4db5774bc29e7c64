-- Names and rank places are distinct.
use Rattle.std.proofs.Common.{◌≡◌, ◌∙◌, ℕ, ◌<◌, true, List, [], length, get_or, sym, ap, arith, get_or-take, length-take}
use Rattle.std.proofs.lemmas.{Bool.cases_eq, Bool.cases_lt, Bool.both_ways, List.Folds.list_any_at, Slice.Eq.bytes_eq-Decides}
use Rattle.std.proofs.lemmas.Grind.{common_steps}
use Rattle.council_game.specs.{Game.GameView, Game.IsGame, Game.is_repeat, Ranks.member_at}
use Rattle.council_game.proofs.Shared.{Games.passed, Games.position-none, Making.ranks-are}

pub distinct_places : (g : GameView) → IsGame g → (i j : ℕ) → i < length g.names → j < length g.names
    → get_or g.ranks i 0 ≡ get_or g.ranks j 0
    → i ≡ j
distinct_places g game i j li lj same =
    let are = ranks-are g game in
    sym (are.member_back i li) ∙ ap (member_at g.ranks) same ∙ are.member_back j lj

-- a name that comes before is a repeat
repeats : (names : List (List ℕ)) (i j : ℕ) → i < j → j < length names → get_or names i [] ≡ get_or names j [] → is_repeat names j ≡ true
repeats names i j before below same = grind (arith, list_any_at, length-take, bytes_eq-Decides, get_or-take)

none-before : (g : GameView) → IsGame g → (i j : ℕ) → i < j → j < length g.names → get_or g.names i [] ≡ get_or g.names j [] → ⊥
none-before g game i j before below same =
    both_ways _ (position-none (is_repeat g.names) (length g.names) (passed g game.made).repeats j below)
    (repeats g.names i j before below same)

pub distinct_names : (g : GameView) → IsGame g → (i j : ℕ) → i < length g.names → j < length g.names
    → get_or g.names i [] ≡ get_or g.names j [] → i ≡ j
distinct_names g game i j li lj same = grind (arith, common_steps, cases_eq, cases_lt, none-before)
