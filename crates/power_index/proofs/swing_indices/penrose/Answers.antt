use Rattle.std.proofs.Common.{◌≡◌, ◌∙◌, ◌-◌, ◌^◌, ap, length, arith, pow_pos}
use Rattle.power_index.specs.Fractions.{lowest_terms}
use Rattle.power_index.specs.{SwingIndices.penrose, Swings.swings}
use Rattle.power_index.proofs.SwingBounds.{swings-of-half}
use Rattle.power_index.proofs.swing_indices.penrose.Goals as goal

pub ratio-requires-clause-part : goal.ratio-requires-clause-part
ratio-requires-clause-part c =
    let some = c.members.ensures.kept in
    let n = some.counts.members in
    rw (c.coalitions-choices.ensures, c.members.ensures.members, n, c.into.ensures, c.of_member.ensures.swings some.game some.is_game some.counts)
    (swings-of-half some.game some.is_game c.args.member (omega (arith, c.requires, n)))

pub returns-clause-terms : goal.returns-clause-terms
unfolding penrose
returns-clause-terms c g game are =
    let top : c.into.result ≡ swings g c.args.member = c.into.ensures ∙ c.of_member.ensures.swings g game are in
    let bottom : c.coalitions-choices.result ≡ 2 ^ (length g.names - 1) =
    c.coalitions-choices.ensures ∙ ap (λ n. 2 ^ (n - 1)) (c.members.ensures.members ∙ are.members) in
    c.ratio.ensures.terms (omega (arith, bottom, pow_pos (length g.names - 1))) ∙ (λ k. lowest_terms (top k, bottom k))
