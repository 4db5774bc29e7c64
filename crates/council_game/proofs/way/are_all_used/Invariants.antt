use Rattle.council_game.proofs.Imports.{◌≡◌, ◌<◌, ℕ, true, list_any, way_views}
use Rattle.council_game.specs.Ways.{has_rule}
use Rattle.council_game.proofs.way.are_all_used.Given as goal

abbrev pub invariant-loop-rule : goal.invariant-loop-rule
invariant-loop-rule l = (r : ℕ) → r < l.rule → list_any (λ way. has_rule way r) (way_views l.ways) ≡ true
