use Rattle.std.proofs.Common.{sym, Some, None, arith}
use Rattle.std.proofs.lemmas.Grind.{common_steps}
use Rattle.council_file.proofs.Weights.{rule_is, rule_by_steps}
use Rattle.council_file.proofs.bracket.bracket_rule.Goals as goal

pub returns-then-not-take_opening : goal.returns-then-not-take_opening
returns-then-not-take_opening c = grind (arith, rule_by_steps)

pub returns-in_default : goal.returns-in_default
returns-in_default c = grind (arith, common_steps, rule_by_steps)

pub returns-then-not-take_semicolon : goal.returns-then-not-take_semicolon
returns-then-not-take_semicolon c = grind (arith, common_steps, rule_by_steps)

pub returns-in-Some-2 : goal.returns-in-Some-2
returns-in-Some-2 c = rw (← c.new-scanner.ensures)
    (rule_is c.new-scanner.result _ _ _ c.in-Some.quota (Some c.in-Some-2.weights.items) c.if-not-take_opening.ensures
    (sym c.in-Some.ensures) c.if-not-take_semicolon.ensures (rw c.in-Some-2.is at c.in_ok-weights.ensures))

pub returns-in-None : goal.returns-in-None
returns-in-None c = rw (← c.new-scanner.ensures)
    (rule_is c.new-scanner.result _ _ _ c.in-Some.quota None c.if-not-take_opening.ensures
    (sym c.in-Some.ensures) c.if-not-take_semicolon.ensures (rw c.in-None.is at c.in_ok-weights.ensures))
