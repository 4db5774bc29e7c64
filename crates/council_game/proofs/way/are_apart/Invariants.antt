use Rattle.council_game.proofs.Imports.{◌≡◌, ◌==◌, take, true, list_all, count_by, way_views}
use Rattle.council_game.specs.Ways.{covers}
use Rattle.council_game.proofs.way.are_apart.Given as goal

abbrev pub invariant-loop-way : goal.invariant-loop-way
invariant-loop-way l =
    list_all (λ way. count_by (covers way) (way_views l.ways) == 1) (way_views (take l.way-index l.ways)) ≡ true
