use Rattle.council_game.proofs.Imports.{◌≡◌, take, false, list_all, list_any, meets_quota, rule_at, rule_views, way_views}
use Rattle.council_game.proofs.winning.wins.Given as goal

abbrev pub invariant-loop-way : goal.invariant-loop-way
invariant-loop-way l =
    list_any (list_all (λ r. meets_quota l.coalition (rule_at (rule_views l.rules) r))) (way_views (take l.way-index l.ways)) ≡ false
