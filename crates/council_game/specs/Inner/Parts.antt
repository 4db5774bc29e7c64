-- A game of its parts.
use Rattle.std.specs.Prelude.{ℕ, List, Option, map, option_map, string_bytes, String}
use Rattle.std.specs.declared.alloc.Global.{Global}
use Rattle.council_game.specs.declared.rule.Rule.{Rule}
use Rattle.council_game.specs.declared.way.Way.{Way}
use Rattle.council_game.specs.Game.{GameView}
use Rattle.council_game.specs.Rules.{rule_views, way_views}

abbrev pub game_of_parts : Option (String Global) → List (String Global)
    → List Rule → List Way → List ℕ → GameView
game_of_parts title names rules ways ranks = record {
  title = option_map string_bytes title;
  names = map string_bytes names;
  rules = rule_views rules;
  ways = way_views ways;
  ranks = ranks;
}
