use Rattle.mwc_walk.proofs.Imports.{arith, ℕ, both_ways, cases_eq, inl, inr, ap, sym, ◌∙◌, length-set, votes_of, IsExcess}
use Rattle.mwc_walk.specs.Inner.Places.{in_set}
use Rattle.mwc_walk.proofs.Rules.{set-keeps}
use Rattle.mwc_walk.proofs.Spared.{least-excess, out-of-reach}
use Rattle.mwc_walk.proofs.cursor.Cursor.prunes.Goals.{then-set-rule+else-need-lane, else-set-rule}
use Rattle.mwc_walk.proofs.cursor.Cursor.prunes.Goals as goal

pub returns-then-need-lane : goal.returns-then-need-lane
returns-then-need-lane c = λ _. out-of-reach c.requires.is c.args.set.now c.loop-rule.rule _ c.loop-rule-test.true c.if-need-lane.true c.need-need.ensures

pub loop-rule-preserved : goal.loop-rule-preserved
loop-rule-preserved c = elim c.if-set-rule.branch [
  | then-set-rule+else-need-lane w ↦
      let set = c.args.set.now in
      let least = least-excess c.requires.is set c.loop-rule.rule w.saturating_add.result w.need-need.result c.loop-rule-test.true w.if-set-rule.true
      (omega (arith, w.saturating_add.ensures)) w.need-need.ensures in
      rw w.excess-is (record {
        long = omega (arith, length-set c.loop-rule.excess c.loop-rule.rule w.saturating_sub.result);
        done = λ i below inside.
            set-keeps (λ k (e : ℕ). IsExcess (votes_of c.args.game.now) set c.args.self.now.place c.args.self.now.prefix k e)
            c.loop-rule.excess c.loop-rule.rule i w.saturating_sub.result 0 (omega arith) (rw w.saturating_sub.ensures least)
            (λ other. c.loop-rule.invariant.done i (omega (arith, below, other)) inside);
      })
  | else-set-rule w ↦
      rw w.excess-is (record {
        long = c.loop-rule.invariant.long;
        done = λ i below inside. elim (cases_eq i c.loop-rule.rule) [
          | inl same ↦ absurd (both_ways _ w.if-set-rule.false (ap (in_set c.args.set.now) (sym same) ∙ inside))
          | inr other ↦ c.loop-rule.invariant.done i (omega (arith, below, other)) inside
        ];
      })
]
