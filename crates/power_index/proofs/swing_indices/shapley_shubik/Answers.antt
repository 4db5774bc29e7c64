use Rattle.std.proofs.Common.{◌≡◌, ◌∙◌, ◌*◌, ◌-◌, ◌+◌, length, ap, arith, ℕ, mul-le-mul}
use Rattle.power_index.specs.Tables.{denominator}
use Rattle.power_index.proofs.Shared.LowestTerms.{lowest_from_same}
use Rattle.power_index.specs.{SwingIndices.factorial, SwingIndices.shapley_shubik, Inner.Orders.order_share, Swings.swings_of_size}
use Rattle.power_index.proofs.Orders.{shapley-within}
use Rattle.power_index.proofs.OrderShares.{at-most, factorial-pos, next-sum}
use Rattle.power_index.proofs.swing_indices.shapley_shubik.Goals as goal

pub loop-size-preserved : goal.loop-size-preserved
loop-size-preserved c = record {
  small = omega (
    arith,
    c.loop-size.invariant.small,
    ap (λ (v : ℕ). v * c.order_share.result) c.from.ensures,
    mul-le-mul c.of_member_size-swings.ensures.few c.order_share.ensures.few,
  );
  sum = λ g game are.
      let n : c.members-members.result ≡ length g.names = c.members-members.ensures.members ∙ are.members in
      let own = c.from.ensures ∙ c.of_member_size-swings.ensures.swings g game are in
      let share = c.order_share.ensures.share ∙ ap (λ (k : ℕ). order_share k (c.loop-size.size - 1)) n in
      (λ k. (c.loop-size.sum + own k * share k) * factorial (length g.names))
      ∙ next-sum (length g.names) c.loop-size.size c.loop-size.sum (swings_of_size g c.args.member) (omega arith) (omega (arith, n)) (omega (arith, n, c.members-members.ensures.few))
      (c.loop-size.invariant.sum g game are);
}

pub ratio-requires-clause-part : goal.ratio-requires-clause-part
unfolding shapley_shubik
ratio-requires-clause-part c =
    let some = c.members-members.ensures.kept in
    let last : c.loop-size.size - 1 ≡ length some.game.names = omega (arith, c.members-members.ensures.members, some.counts.members) in
    let sum = c.loop-size.invariant.sum some.game some.is_game some.counts in
    at-most (length some.game.names) c.loop-size.sum (shapley_shubik some.game c.args.member).0 (rw last at sum)
    (shapley-within some.game some.is_game c.args.member (omega (arith, c.requires, some.counts.members)))

pub returns-clause-terms : goal.returns-clause-terms
unfolding shapley_shubik
returns-clause-terms c g game are =
    let last : c.loop-size.size - 1 ≡ length g.names = omega (arith, c.members-members.ensures.members, are.members) in
    let sum = rw last at (c.loop-size.invariant.sum g game are) in
    c.ratio.ensures.terms (omega arith)
    ∙ lowest_from_same (c.loop-size.sum, denominator) (shapley_shubik g c.args.member) (omega arith) (factorial-pos (length g.names))
    (omega (arith, sum))
