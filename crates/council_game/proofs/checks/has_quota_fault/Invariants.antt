use Rattle.council_game.proofs.Imports.{◌≡◌, take, false, list_any, has_bad_quota, rule_views}
use Rattle.council_game.proofs.checks.has_quota_fault.Given as goal

abbrev pub invariant-loop-rule : goal.invariant-loop-rule
invariant-loop-rule l = list_any has_bad_quota (rule_views (take l.rule-index l.rules)) ≡ false
