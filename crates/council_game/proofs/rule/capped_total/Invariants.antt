use Rattle.council_game.proofs.Imports.{◌≡◌, ◌-◌, ◌^◌, min, take, sum}
use Rattle.council_game.proofs.rule.capped_total.Given as goal

abbrev pub invariant-loop-weight : goal.invariant-loop-weight
invariant-loop-weight l = l.total ≡ min (sum (take l.weight-index l.weights)) (2 ^ 64 - 1)
