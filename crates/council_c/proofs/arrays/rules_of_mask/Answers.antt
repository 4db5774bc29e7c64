use Rattle.std.proofs.Common.{arith}
use Rattle.std.proofs.lemmas.Grind.{common_steps}
use Rattle.council_game.proofs.Shared.Lists.{filter_one_more}
use Rattle.council_c.specs.Arrays.{has_digit}
use Rattle.council_c.proofs.arrays.rules_of_mask.Goals.{then-has_digit+in_ok-push, else-has_digit}
use Rattle.council_c.proofs.arrays.rules_of_mask.Goals as goal

pub loop-rule-preserved : goal.loop-rule-preserved
loop-rule-preserved c =
    let more = filter_one_more (has_digit c.args.mask) c.loop-rule.rule in
    elim c.if-has_digit.branch [
      | then-has_digit+in_ok-push w ↦ grind (arith, common_steps, more)
      | else-has_digit w ↦ grind (arith, common_steps, more)
    ]
