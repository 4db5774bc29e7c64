use Rattle.power_index.proofs.Imports.{◌≡◌, ◌≤◌, ◌*◌, ◌^◌, sum_by, range_with_len, table_of_member}
use Rattle.power_index.proofs.counts.Counts.memberships.Given as goal

abbrev pub invariant-loop-i : goal.invariant-loop-i
invariant-loop-i l = record { sum : l.sum ≡ sum_by (table_of_member l.self) (range_with_len 0 l.i); small : l.sum ≤ l.i * 2 ^ 40 }
