use Rattle.std.proofs.Common.{◌∙◌, List, ℕ, ◌≤◌, ◌^◌, length, subst, sym}
use Rattle.council_game.specs.Game.{AreNonemptyCoalitions}
use Rattle.power_index.proofs.Shared.Winning.{winning-are-coalitions, winning-few}
use Rattle.council_run.proofs.plain.plain_swings.Goals as goal

pub of-requires-clause-few : goal.of-requires-clause-few
of-requires-clause-few c = subst (λ (list : List ℕ). length list ≤ 2 ^ 40) (sym (c.deref.ensures.value ∙ c.in_ok-winning.ensures))
    (winning-few c.args.game.now c.was_checked.ensures.game)

pub of-requires-clause-coalitions : goal.of-requires-clause-coalitions
of-requires-clause-coalitions c = subst (λ (list : List ℕ). AreNonemptyCoalitions c.args.game.now list)
    (sym (c.deref.ensures.value ∙ c.in_ok-winning.ensures)) (winning-are-coalitions c.args.game.now c.was_checked.ensures.game)
