use Rattle.std.proofs.Common.{◌≡◌, ◌∙◌, ◌^◌, ap, length, arith, pow_pos}
use Rattle.power_index.specs.Fractions.{lowest_terms}
use Rattle.power_index.specs.{SwingIndices.power_to_act, Swings.winning_coalitions}
use Rattle.power_index.proofs.SwingBounds.{some-lose}
use Rattle.power_index.proofs.swing_indices.power_to_act.Goals as goal

pub ratio-requires-clause-part : goal.ratio-requires-clause-part
ratio-requires-clause-part c =
    let some = c.members.ensures.kept in
    let lose = some-lose some.game some.is_game in
    let all = c.coalitions.ensures ∙ ap (λ n. 2 ^ n) (c.members.ensures.members ∙ some.counts.members) in
    omega (arith, lose, all, c.into.ensures, c.winning.ensures.winning some.game some.counts)

pub returns-clause-terms : goal.returns-clause-terms
unfolding power_to_act
returns-clause-terms c g game are =
    let top : c.into.result ≡ length (winning_coalitions g) = c.into.ensures ∙ c.winning.ensures.winning g are in
    let bottom : c.coalitions.result ≡ 2 ^ length g.names = c.coalitions.ensures ∙ ap (λ n. 2 ^ n) (c.members.ensures.members ∙ are.members) in
    c.ratio.ensures.terms (omega (arith, bottom, pow_pos (length g.names))) ∙ (λ k. lowest_terms (top k, bottom k))
