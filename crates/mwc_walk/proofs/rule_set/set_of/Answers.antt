use Rattle.mwc_walk.proofs.Imports.{arith, List, ℕ, length, ap, ◌∙◌, length-map}
use Rattle.std.proofs.Common.{take_all}
use Rattle.council_game.specs.{Ranks.rule_by_rank, Ways.has_rule}
use Rattle.council_game.proofs.Shared.Ways.{way-rule}
use Rattle.mwc_walk.proofs.rule_set.set_of.Goals as goal

pub bounds-set-rule : goal.bounds-set-rule
bounds-set-rule c =
    let below = (way-rule (length c.args.game.now.rules) c.way-rule-items.result.now c.way-rule-items.ensures.rules).1 c.loop-rule.rule-index 0 c.loop-rule-test.true in
    omega (arith, below, c.was_checked.ensures.game.few_rules)

pub returns : goal.returns
returns c = λ i lt.
    let g = c.args.game.now in
    c.loop-rule.invariant.done i (omega (arith, lt, length-map g.rules (rule_by_rank g.ranks), c.was_checked.ensures.game.few_rules))
    ∙ ap (λ (way : List ℕ). has_rule way i) (take_all c.loop-rule.rule-index c.way-rule-items.result.now c.loop-rule-test.false ∙ c.way-rule-items.ensures.way)
