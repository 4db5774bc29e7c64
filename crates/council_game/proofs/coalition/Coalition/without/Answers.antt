use Rattle.std.proofs.Common.{div-mul-le_self, mul-le-mul_right, arith, eqb-true}
use Rattle.std.proofs.lemmas.{Bool.cond-true, Grind.common_steps}
use Rattle.council_game.specs.Coalitions.{without, has}
use Rattle.council_game.proofs.{Shared.Digits.has-gone, Shared.Digits.has-kept, Sizes.digit-shifted}
use Rattle.council_game.proofs.coalition.Coalition.without.Goals as goal

pub overflow_sub-self-inside : goal.overflow_sub-self-inside
unfolding has
overflow_sub-self-inside c = grind (arith, common_steps, digit-shifted, eqb-true, div-mul-le_self, mul-le-mul_right)

pub returns-then-has-clause-mask : goal.returns-then-has-clause-mask
unfolding without
returns-then-has-clause-mask c = grind (arith, common_steps, digit-shifted, cond-true)

pub returns-then-has-clause-outside : goal.returns-then-has-clause-outside
unfolding without
returns-then-has-clause-outside c = grind (arith, common_steps, digit-shifted, has-gone)

pub returns-then-has-clause-others : goal.returns-then-has-clause-others
unfolding without
returns-then-has-clause-others c p lt other = grind (arith, common_steps, digit-shifted, has-kept)
