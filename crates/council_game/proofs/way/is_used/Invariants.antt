use Rattle.council_game.proofs.Imports.{◌≡◌, take, false, list_any, way_views}
use Rattle.council_game.specs.Ways.{has_rule}
use Rattle.council_game.proofs.way.is_used.Given as goal

abbrev pub invariant-loop-way : goal.invariant-loop-way
invariant-loop-way l = list_any (λ way. has_rule way l.rule) (way_views (take l.way-index l.ways)) ≡ false
