use Rattle.std.proofs.Common.{◌≡◌, ◌∙◌, length, arith}
use Rattle.power_index.specs.Fractions.{lowest_terms}
use Rattle.power_index.specs.{SwingIndices.power_to_prevent, Swings.swings, Swings.winning_coalitions}
use Rattle.power_index.proofs.SwingBounds.{some-win, swings-of-winning}
use Rattle.power_index.proofs.swing_indices.power_to_prevent.Goals as goal

pub ratio-requires-clause-part : goal.ratio-requires-clause-part
ratio-requires-clause-part c =
    let some = c.of_member.ensures.kept in
    omega (
      arith,
      swings-of-winning some.game some.is_game c.args.member (omega (arith, c.requires, some.counts.members)),
      c.of_member.ensures.swings some.game some.is_game some.counts,
      c.winning.ensures.winning some.game some.counts,
      c.into.ensures,
      c.into-2.ensures,
    )

pub returns-clause-terms : goal.returns-clause-terms
unfolding power_to_prevent
returns-clause-terms c g game are =
    let top : c.into.result ≡ swings g c.args.member = c.into.ensures ∙ c.of_member.ensures.swings g game are in
    let bottom : c.into-2.result ≡ length (winning_coalitions g) = c.into-2.ensures ∙ c.winning.ensures.winning g are in
    c.ratio.ensures.terms (omega (arith, bottom, some-win g game)) ∙ (λ k. lowest_terms (top k, bottom k))
