use Rattle.std.proofs.Common.{◌≡◌, map}
use Rattle.std.specs.{List.range_with_len, Option.is_some}
use Rattle.council_c.specs.Numbers.{numbers}
use Rattle.council_c.proofs.numbers.all_numbers.Given as goal

abbrev pub invariant-loop-member : goal.invariant-loop-member
invariant-loop-member l = l.all.items ≡ map (numbers (is_some l.swings) l.game) (range_with_len 0 l.member)
