use Rattle.std.proofs.Common.{◌≡◌, ◌≤◌, ◌-◌}
use Rattle.power_index.specs.Inner.Orders.{order_share}
use Rattle.power_index.proofs.swing_indices.order_share.Given as goal

abbrev pub invariant-loop-k : goal.invariant-loop-k
invariant-loop-k l = record {
  share : l.share ≡ order_share l.members (l.k - 1);
  few : l.share ≤ 5342931457063200;
}
