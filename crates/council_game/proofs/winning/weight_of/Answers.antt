use Rattle.council_game.proofs.Shared.{WeightByDigits.weight-nil, WinningByPlaces.weight-out, WinningByPlaces.weight-next}
use Rattle.council_game.proofs.{Imports.has, Imports.arith, Imports.nat_tests, Shared.Weights.weight-le}
use Rattle.std.proofs.{Common.take_all, lemmas.List.Sums.sum_by-take-drop, lemmas.List.Sums.sum_by-drop_more}
use Rattle.council_game.proofs.winning.weight_of.Goals as goal

pub loop-place-init : goal.loop-place-init
loop-place-init c = grind (arith, weight-nil)

pub overflow_add-sum : goal.overflow_add-sum
overflow_add-sum c = grind (arith, weight-le, sum_by-take-drop, sum_by-drop_more)

pub loop-place-preserved : goal.loop-place-preserved
unfolding has
loop-place-preserved c = grind (arith, nat_tests, weight-out, weight-next)

pub returns : goal.returns
returns c = grind (arith, take_all)
