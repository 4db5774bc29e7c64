use Rattle.council_game.proofs.Imports.{◌≡◌, take, true, list_all, way_view}
use Rattle.council_game.specs.Ways.{has_rule}
use Rattle.council_game.proofs.way.Way.covers.Given as goal

abbrev pub invariant-loop-rule : goal.invariant-loop-rule
invariant-loop-rule l = list_all (has_rule (way_view l.self)) (take l.rule-index l.other.rules.items) ≡ true
