use Rattle.mwc_walk.proofs.Imports.{arith, both_ways, ◌∙◌, sym, votes_of}
use Rattle.mwc_walk.specs.Inner.Places.{meets_at}
use Rattle.mwc_walk.proofs.{Rules.set-more, Steps.lane-wins}
use Rattle.mwc_walk.proofs.cursor.Cursor.meets.Goals.{else-set-rule-via-then-set-rule+else-not-wins, else-set-rule-via-else-set-rule}
use Rattle.mwc_walk.proofs.cursor.Cursor.meets.Goals as goal

pub loop-rule-preserved : goal.loop-rule-preserved
loop-rule-preserved c =
    set-more (meets_at c.args.self.now.place c.args.self.now.prefix) (votes_of c.args.game.now) c.args.set.now c.loop-rule.rule c.loop-rule.invariant
    (λ inside. elim c.else-set-rule.branch [
      | else-set-rule-via-then-set-rule+else-not-wins w ↦
          sym (lane-wins c.requires c.loop-rule.rule c.loop-rule-test.true) ∙ sym w.wins.ensures ∙ w.if-not-wins.false
      | else-set-rule-via-else-set-rule w ↦ absurd (both_ways _ w.if-set-rule.false inside)
    ])

pub returns-then-not-wins-clause-not : goal.returns-then-not-wins-clause-not
returns-then-not-wins-clause-not c = λ _ passes.
    let below = c.loop-rule-test.true in
    both_ways _ (sym (lane-wins c.requires c.loop-rule.rule below) ∙ sym c.wins.ensures ∙ c.if-not-wins.true)
    (passes c.loop-rule.rule (omega (arith, below, c.requires.rules)) c.if-set-rule.true)
