use Rattle.council_game.proofs.Imports.{arith, both_ways, false_from_ne_true, list_any, way_views, ◌∙◌, sym}
use Rattle.council_game.specs.Ways.{has_rule}
use Rattle.council_game.proofs.Shared.Lists.{all-at, all-of}
use Rattle.council_game.proofs.way.are_all_used.Goals as goal

pub loop-rule-preserved : goal.loop-rule-preserved
loop-rule-preserved c = grind (arith, c.is_used.ensures)

pub returns-then-not-is_used : goal.returns-then-not-is_used
returns-then-not-is_used c =
    sym (false_from_ne_true _ (λ all. both_ways _ (sym c.is_used.ensures ∙ c.if-not-is_used.true)
    (all-at (λ r. list_any (λ way. has_rule way r) (way_views c.args.ways.now)) c.args.rules c.loop-rule.rule c.loop-rule-test.true all)))

pub returns : goal.returns
returns c = sym (all-of _ c.args.rules (λ r lt. c.loop-rule.invariant r (omega (arith, lt, c.loop-rule-test.false))))
