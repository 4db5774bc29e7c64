use Rattle.power_index.proofs.Imports.{◌*◌, ◌≡◌, ◌≤◌, ◌-◌, ◌^◌, table_of_member_size, weighted_sum}
use Rattle.power_index.proofs.indices.weight.Given as goal

abbrev pub invariant-loop-size : goal.invariant-loop-size
invariant-loop-size l = record {
  sum : l.sum ≡ weighted_sum 5342931457063200 (table_of_member_size l.counts l.member) (l.size - 1);
  small : l.sum ≤ (l.size - 1) * (2 ^ 40 * 5342931457063200);
}
