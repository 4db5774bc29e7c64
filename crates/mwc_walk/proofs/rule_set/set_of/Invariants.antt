use Rattle.mwc_walk.proofs.Imports.{◌≡◌, ◌<◌, ℕ, take, length}
use Rattle.mwc_walk.specs.Inner.Places.{in_set}
use Rattle.council_game.specs.Ways.{has_rule}
use Rattle.mwc_walk.proofs.rule_set.set_of.Given as goal

abbrev pub invariant-loop-rule : goal.invariant-loop-rule
invariant-loop-rule l = record {
  long : length l.set ≡ 4;
  done : (i : ℕ) → i < 4 → in_set l.set i ≡ has_rule (take l.rule-index l.rule-items) i;
}
