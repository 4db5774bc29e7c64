use Rattle.council_game.proofs.Imports.{◌≡◌, take, true, list_all, is_way, way_views}
use Rattle.council_game.proofs.way.are_each_of.Given as goal

abbrev pub invariant-loop-way : goal.invariant-loop-way
invariant-loop-way l = list_all (is_way l.rules) (way_views (take l.way-index l.ways)) ≡ true
