use Rattle.mwc_walk.proofs.{Imports.arith, Steps.lane-here, Steps.lane-weight}
use Rattle.mwc_walk.proofs.cursor.Cursor.spares.Goals as goal

pub returns-then-self-rule-clause-none : goal.returns-then-self-rule-clause-none
returns-then-self-rule-clause-none c = λ _ spare.
    let here = lane-here c.requires.is c.loop-rule.rule c.loop-rule-test.true in
    let same = lane-weight here c.args.place (omega (arith, c.requires.place, c.requires.is.members)) in grind arith

pub loop-rule-preserved : goal.loop-rule-preserved
loop-rule-preserved c =
    let here = lane-here c.requires.is c.loop-rule.rule c.loop-rule-test.true in
    let same = lane-weight here c.args.place (omega (arith, c.requires.place, c.requires.is.members)) in grind arith
