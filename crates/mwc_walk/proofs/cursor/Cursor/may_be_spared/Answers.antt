use Rattle.mwc_walk.proofs.cursor.Cursor.may_be_spared.Goals.{then-set-rule+then-excess-rule, else-set-rule}
use Rattle.mwc_walk.proofs.{Imports.arith, Spared.tried-first, Spared.tried-weightless, Steps.lane-here}
use Rattle.mwc_walk.proofs.cursor.Cursor.may_be_spared.Goals as goal

pub loop-rule-init : goal.loop-rule-init
loop-rule-init c = tried-first c.requires c.args.set.now c.args.excess.now _ c.mask_of-few.ensures.mask

pub loop-rule-preserved : goal.loop-rule-preserved
loop-rule-preserved c = elim c.if-set-rule.branch [
  | then-set-rule+then-excess-rule w ↦ rw w.few-is (tried-weightless c.loop-rule.invariant c.loop-rule.rule _
      (omega (arith, c.loop-rule-test.true, c.requires.rules)) w.if-set-rule.true c.requires.place.to
      (lane-here c.requires c.loop-rule.rule c.loop-rule-test.true) (rw c.saturating_sub-last.ensures at w.if-excess-rule.true))
  | else-set-rule w ↦ rw w.few-is c.loop-rule.invariant
]
