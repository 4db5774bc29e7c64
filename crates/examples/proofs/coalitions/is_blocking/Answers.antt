use Rattle.std.proofs.Common.{not, sym, ap, ◌∙◌}
use Rattle.std.proofs.lemmas.Bool.{both_ways, false_from_ne_true, not-true}
use Rattle.council_game.specs.{Game.votes_of, Votes.wins}
use Rattle.examples.proofs.coalitions.is_blocking.Goals as goal

pub returns : goal.returns
returns c =
    let g = c.args.game.now in
    let out = c.outsiders.result in (
      λ lost other apart. false_from_ne_true (wins (votes_of g) other) (λ won. both_ways _ (sym c.wins.ensures ∙ not-true _ lost)
          (c.larger_coalitions_win.ensures.members g c.was_checked.ensures.game other out
          (λ i li there. c.outsiders.ensures.members i li ∙ ap not (apart i li there)) won)),
      λ all. ap not (c.wins.ensures ∙ all out (λ i li within. not-true _ (sym (c.outsiders.ensures.members i li) ∙ within))),
    )
