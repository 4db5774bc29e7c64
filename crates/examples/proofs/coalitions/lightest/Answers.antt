use Rattle.examples.proofs.coalitions.lightest.Goals as goal

pub loop-coalition-preserved-then-weight_of : goal.loop-coalition-preserved-then-weight_of
loop-coalition-preserved-then-weight_of c =
    let next = c.in-Some.ensures in
    record {
      whole = c.steps_keep_the_whole.ensures _ _ _ _ _ _ next.given next.next c.loop-coalition.invariant.whole;
      least = c.steps_keep_the_least.ensures.next _ _ _ _ _ next.given c.loop-coalition.invariant.least
          (rw (← c.weight_of.ensures.weight, ← c.weight_of-in-Some.ensures.weight) c.if-weight_of.true);
    }

pub loop-coalition-preserved : goal.loop-coalition-preserved
loop-coalition-preserved c =
    let next = c.in-Some.ensures in
    record {
      whole = c.steps_keep_the_whole.ensures _ _ _ _ _ _ next.given next.next c.loop-coalition.invariant.whole;
      least = c.steps_keep_the_least.ensures.stays _ _ _ _ _ next.given c.loop-coalition.invariant.least
          (rw (← c.weight_of.ensures.weight, ← c.weight_of-in-Some.ensures.weight) c.if-weight_of.false);
    }
