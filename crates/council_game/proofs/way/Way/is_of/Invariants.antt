use Rattle.council_game.proofs.Imports.{◌≡◌, ◌==◌, take, true, list_all, count_by}
use Rattle.std.proofs.Common.{◌&&◌, ltb}
use Rattle.council_game.proofs.way.Way.is_of.Given as goal

abbrev pub invariant-loop-rule : goal.invariant-loop-rule
invariant-loop-rule l =
    list_all (λ r. ltb r l.rules && count_by (λ s. s == r) l.self.rules.items == 1) (take l.rule-index l.self.rules.items) ≡ true
