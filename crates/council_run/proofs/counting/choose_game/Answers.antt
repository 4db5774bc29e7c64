use Rattle.std.proofs.Common.{Option, true, refl, sym, ap, subst, ◌∙◌, ◌≡◌}
use Rattle.std.specs.Option.{IfSome}
use Rattle.council_game.proofs.Shared.Sums.{filter-all}
use Rattle.council_game.specs.{Contribution.by_contribution, Game.GameView, Game.votes_of, Votes.minimal_coalitions}
use Rattle.council_run.proofs.counting.choose_game.Goals as goal

pub returns-in-Some-clause-as_many : goal.returns-in-Some-clause-as_many
returns-in-Some-clause-as_many c =
    let g = c.args.game.now in
    let h = c.in-Some.ordered in
    let is : h ≡ by_contribution g =
    subst (λ (o : Option GameView). IfSome o (λ h. h ≡ by_contribution g)) c.in-Some.is c.requires in
    let same = c.places_do_not_matter.ensures g h c.was_checked.ensures.game c.was_checked-in-Some.ensures.game
    (ap (λ (v : GameView). v.names) is) (ap (λ (v : GameView). v.rules) is) (ap (λ (v : GameView). v.ways) is) in
    sym (filter-all (minimal_coalitions (votes_of h))) ∙ sym (same.counts (λ d. true) (λ d. true) (λ c d lc ld m. refl))
    ∙ filter-all (minimal_coalitions (votes_of g))
