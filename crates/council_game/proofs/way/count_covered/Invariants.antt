use Rattle.council_game.proofs.Imports.{◌≡◌, take, count_by, way_view, way_views}
use Rattle.council_game.specs.Ways.{covers}
use Rattle.council_game.proofs.way.count_covered.Given as goal

abbrev pub invariant-loop-other : goal.invariant-loop-other
invariant-loop-other l = l.count ≡ count_by (covers (way_view l.way)) (way_views (take l.other-index l.ways))
