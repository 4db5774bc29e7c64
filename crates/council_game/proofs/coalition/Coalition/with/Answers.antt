use Rattle.std.proofs.{Common.arith, Common.eq-eqb, lemmas.Bool.cond-false, lemmas.Grind.common_steps}
use Rattle.council_game.specs.Coalitions.{with_member, has}
use Rattle.council_game.proofs.Sizes.{digit-shifted}
use Rattle.council_game.proofs.Shared.Digits.{has-beside, added-below, added-room, digit-added, out-digit}
use Rattle.council_game.proofs.coalition.Coalition.with.Goals as goal

pub invariant_of-result : goal.invariant_of-result
invariant_of-result c = grind (arith, common_steps, digit-shifted, added-room)

pub returns-else-has-clause-mask : goal.returns-else-has-clause-mask
unfolding with_member
returns-else-has-clause-mask c = grind (arith, common_steps, digit-shifted, cond-false)

pub returns-else-has-clause-inside : goal.returns-else-has-clause-inside
unfolding has
returns-else-has-clause-inside c = grind (arith, common_steps, digit-shifted, eq-eqb, digit-added, out-digit)

pub returns-else-has-clause-others : goal.returns-else-has-clause-others
returns-else-has-clause-others c p lt other = grind (arith, common_steps, digit-shifted, has-beside)

pub returns-else-has-clause-below : goal.returns-else-has-clause-below
returns-else-has-clause-below c below = grind (arith, common_steps, digit-shifted, added-below)
