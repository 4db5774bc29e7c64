use Rattle.std.proofs.Common.{◌-◌, ◌+◌, ◌*◌, ◌/◌, ◌≡◌, ◌∙◌, ap, arith}
use Rattle.power_index.specs.Inner.Orders.{order_share}
use Rattle.power_index.proofs.OrderShares.{first-share, next-share, share-few}
use Rattle.power_index.proofs.swing_indices.order_share.Goals as goal

pub loop-k-init : goal.loop-k-init
loop-k-init c = grind (arith, first-share, share-few)

pub loop-k-preserved : goal.loop-k-preserved
loop-k-preserved c =
    let k = c.loop-k.k in
    let n = c.args.members in
    let at : k - 1 + 1 ≡ k = omega arith in
    let next = rw at at (next-share n (k - 1) (omega (arith, c.requires.before)) c.requires.few) in
    let share : c.loop-k.share * k / (n - k) ≡ order_share n k = ap (λ v. v * k / (n - k)) c.loop-k.invariant.share ∙ next in
    let same : k ≡ k + 1 - 1 = omega arith in
    record { share = share ∙ ap (order_share n) same; few = omega (arith, share, share-few n k (omega (arith, c.requires.before)) c.requires.few) }
