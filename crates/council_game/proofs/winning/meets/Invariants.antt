use Rattle.council_game.proofs.Imports.{◌≡◌, take, true, list_all, meets_quota, rule_at, rule_views}
use Rattle.council_game.proofs.winning.meets.Given as goal

abbrev pub invariant-loop-rule : goal.invariant-loop-rule
invariant-loop-rule l =
    list_all (λ r. meets_quota l.coalition (rule_at (rule_views l.rules) r)) (take l.rule-index l.way.rules.items) ≡ true
