use Rattle.std.proofs.Common.{◌≡◌, filter}
use Rattle.std.specs.List.{range_with_len}
use Rattle.council_c.specs.Arrays.{has_digit}
use Rattle.council_c.proofs.arrays.rules_of_mask.Given as goal

abbrev pub invariant-loop-rule : goal.invariant-loop-rule
invariant-loop-rule l = l.rules.items ≡ filter (has_digit l.mask) (range_with_len 0 l.rule)
