use Rattle.council_game.proofs.Imports.{◌≡◌, ◌-◌, ◌/◌, ◌^◌, take, weight}
use Rattle.council_game.proofs.winning.weight_of.Given as goal

abbrev pub invariant-loop-place : goal.invariant-loop-place
invariant-loop-place l = l.sum ≡ weight (take l.place l.weights) (l.coalition / 2 ^ (l.members - l.place))
