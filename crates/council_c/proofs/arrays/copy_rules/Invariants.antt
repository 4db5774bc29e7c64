use Rattle.std.proofs.Common.{◌≡◌, All, length, map}
use Rattle.std.specs.List.{range_with_len}
use Rattle.council_game.specs.Rules.{rule_views}
use Rattle.council_c.specs.Arrays.{rule_of}
use Rattle.council_c.proofs.arrays.copy_rules.Given as goal

abbrev pub invariant-loop-r : goal.invariant-loop-r
invariant-loop-r l = record {
  rules : rule_views l.rules.items ≡ map (rule_of l.arrays.quotas.now l.arrays.weights.now l.arrays.members) (range_with_len 0 l.r);
  full : All (λ rule. length rule.weights.items ≡ l.arrays.members) l.rules.items;
  count : length l.rules.items ≡ l.r;
}
