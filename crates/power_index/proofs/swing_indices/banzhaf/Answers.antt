use Rattle.std.proofs.Common.{◌≡◌, ◌∙◌, arith}
use Rattle.power_index.specs.Fractions.{lowest_terms}
use Rattle.power_index.specs.{SwingIndices.banzhaf, Swings.all_swings, Swings.swings}
use Rattle.power_index.proofs.SwingBounds.{all-some, swings-of-all}
use Rattle.power_index.proofs.swing_indices.banzhaf.Goals as goal

pub ratio-requires-clause-part : goal.ratio-requires-clause-part
ratio-requires-clause-part c =
    let some = c.of_member.ensures.kept in
    omega (
      arith,
      swings-of-all some.game some.is_game c.args.member (omega (arith, c.requires, some.counts.members)),
      c.of_member.ensures.swings some.game some.is_game some.counts,
      c.all.ensures.swings some.game some.is_game some.counts,
      c.into.ensures,
      c.into-2.ensures,
    )

pub returns-clause-terms : goal.returns-clause-terms
unfolding banzhaf
returns-clause-terms c g game are =
    let top : c.into.result ≡ swings g c.args.member = c.into.ensures ∙ c.of_member.ensures.swings g game are in
    let bottom : c.into-2.result ≡ all_swings g = c.into-2.ensures ∙ c.all.ensures.swings g game are in
    c.ratio.ensures.terms (omega (arith, bottom, all-some g game)) ∙ (λ k. lowest_terms (top k, bottom k))
