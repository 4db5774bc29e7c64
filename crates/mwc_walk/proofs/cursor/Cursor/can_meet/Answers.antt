use Rattle.mwc_walk.proofs.Imports.{arith, both_ways, ◌∙◌, sym, votes_of}
use Rattle.mwc_walk.specs.Inner.Places.{can_meet}
use Rattle.mwc_walk.proofs.{Rules.set-more, Steps.lane-reaches}
use Rattle.mwc_walk.proofs.cursor.Cursor.can_meet.Goals.{else-set-rule-via-then-set-rule+else-not-reaches, else-set-rule-via-else-set-rule}
use Rattle.mwc_walk.proofs.cursor.Cursor.can_meet.Goals as goal

pub loop-rule-preserved : goal.loop-rule-preserved
loop-rule-preserved c =
    set-more (can_meet c.args.self.now.place c.args.self.now.prefix) (votes_of c.args.game.now) c.args.set.now c.loop-rule.rule c.loop-rule.invariant
    (λ inside. elim c.else-set-rule.branch [
      | else-set-rule-via-then-set-rule+else-not-reaches w ↦
          sym (lane-reaches c.requires c.loop-rule.rule c.loop-rule-test.true) ∙ sym w.reaches.ensures ∙ w.if-not-reaches.false
      | else-set-rule-via-else-set-rule w ↦ absurd (both_ways _ w.if-set-rule.false inside)
    ])

pub returns-then-not-reaches-clause-not : goal.returns-then-not-reaches-clause-not
returns-then-not-reaches-clause-not c = λ _ passes.
    let below = c.loop-rule-test.true in
    both_ways _ (sym (lane-reaches c.requires c.loop-rule.rule below) ∙ sym c.reaches.ensures ∙ c.if-not-reaches.true)
    (passes c.loop-rule.rule (omega (arith, below, c.requires.rules)) c.if-set-rule.true)
