use Rattle.std.proofs.Common.{◌≡◌, filter}
use Rattle.std.specs.List.{range_with_len}
use Rattle.power_index.specs.Swings.{is_critical}
use Rattle.game_calls.proofs.critical.critical_members.Given as goal

abbrev pub invariant-loop-member : goal.invariant-loop-member
invariant-loop-member l = l.critical.items ≡ filter (is_critical l.game l.coalition) (range_with_len 0 l.member)
