use Rattle.council_game.proofs.Imports.{◌≡◌, ◌==◌, take, count_by}
use Rattle.council_game.proofs.way.Way.count.Given as goal

abbrev pub invariant-loop-own : goal.invariant-loop-own
invariant-loop-own l = l.count ≡ count_by (λ s. s == l.rule) (take l.own-index l.self.rules.items)
