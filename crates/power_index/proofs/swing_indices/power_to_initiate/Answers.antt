use Rattle.std.proofs.Common.{◌≡◌, ◌∙◌, ◌-◌, ◌^◌, ap, length, arith}
use Rattle.power_index.specs.Fractions.{lowest_terms}
use Rattle.power_index.specs.{SwingIndices.power_to_initiate, Swings.swings, Swings.winning_coalitions}
use Rattle.power_index.proofs.SwingBounds.{some-lose, swings-of-losing}
use Rattle.power_index.proofs.swing_indices.power_to_initiate.Goals as goal

pub overflow_sub-losing : goal.overflow_sub-losing
overflow_sub-losing c =
    let some = c.members.ensures.kept in
    let all = c.coalitions.ensures ∙ ap (λ n. 2 ^ n) (c.members.ensures.members ∙ some.counts.members) in
    omega (arith, some-lose some.game some.is_game, all, c.from.ensures, c.winning.ensures.winning some.game some.counts)

pub ratio-requires-clause-part : goal.ratio-requires-clause-part
ratio-requires-clause-part c =
    let some = c.members.ensures.kept in
    let all = c.coalitions.ensures ∙ ap (λ n. 2 ^ n) (c.members.ensures.members ∙ some.counts.members) in
    omega (
      arith,
      swings-of-losing some.game some.is_game c.args.member (omega (arith, c.requires, some.counts.members)),
      all,
      c.from.ensures,
      c.into.ensures,
      c.winning.ensures.winning some.game some.counts,
      c.of_member.ensures.swings some.game some.is_game some.counts,
    )

pub returns-clause-terms : goal.returns-clause-terms
unfolding power_to_initiate
returns-clause-terms c g game are =
    let top : c.into.result ≡ swings g c.args.member = c.into.ensures ∙ c.of_member.ensures.swings g game are in
    let all : c.coalitions.result ≡ 2 ^ length g.names = c.coalitions.ensures ∙ ap (λ n. 2 ^ n) (c.members.ensures.members ∙ are.members) in
    let won : c.from.result ≡ length (winning_coalitions g) = c.from.ensures ∙ c.winning.ensures.winning g are in
    c.ratio.ensures.terms (omega (arith, all, won, some-lose g game)) ∙ (λ k. lowest_terms (top k, all k - won k))
