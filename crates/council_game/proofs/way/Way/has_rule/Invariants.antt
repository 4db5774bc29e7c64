use Rattle.council_game.proofs.Imports.{◌≡◌, ◌==◌, take, false, list_any}
use Rattle.council_game.proofs.way.Way.has_rule.Given as goal

abbrev pub invariant-loop-own : goal.invariant-loop-own
invariant-loop-own l = list_any (λ s. s == l.rule) (take l.own-index l.self.rules.items) ≡ false
