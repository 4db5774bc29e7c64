-- Rules and ways as contracts see them.
use Rattle.std.specs.Prelude.{ℕ, List, map}
use Rattle.council_game.specs.declared.rule.Rule.{Rule}
use Rattle.council_game.specs.declared.way.Way.{Way}
use Rattle.council_game.specs.Votes.{RuleView}

abbrev pub rule_view : Rule → RuleView
rule_view r = record { quota = r.quota; weights = r.weights.items }

abbrev pub rule_views : List Rule → List RuleView
rule_views rs = map rule_view rs

abbrev pub way_view : Way → List ℕ
way_view w = w.rules.items

abbrev pub way_views : List Way → List (List ℕ)
way_views ws = map way_view ws
