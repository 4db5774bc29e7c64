use Rattle.council_game.proofs.Imports.{◌≡◌, ◌<◌, ℕ, false, is_heavy, rule_views}
use Rattle.council_game.proofs.checks.check_weights.Given as goal

abbrev pub invariant-loop-k : goal.invariant-loop-k
invariant-loop-k l = (i : ℕ) → i < l.k → is_heavy (rule_views l.rules) i ≡ false
