use Rattle.council_game.proofs.Imports.{◌≡◌, take, false, is_heavy, rule_views}
use Rattle.council_game.proofs.checks.is_heavy.Given as goal

abbrev pub invariant-loop-rule : goal.invariant-loop-rule
invariant-loop-rule l = is_heavy (rule_views (take l.rule-index l.rules)) l.k ≡ false
