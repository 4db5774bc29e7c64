use Rattle.mwc_states.proofs.Imports.{nat_tests, sum_by_more, arith, Choices}
use Rattle.mwc_states.proofs.choices.merge.Goals as goal

pub loop-some-preserved : goal.loop-some-preserved
loop-some-preserved c =
    let none : Choices = record { size = 0; row = 0; count = 0 } in record {
      within = λ rows most all. c.in_ok-push.ensures.within rows most (c.loop-some.invariant.within rows most all) (all c.loop-some.some-index none c.loop-some-test.true);
      sums = grind (arith, nat_tests, sum_by_more);
    }
