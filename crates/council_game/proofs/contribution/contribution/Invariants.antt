use Rattle.council_game.proofs.Imports.{◌≡◌, ◌*◌, ◌≤◌, RuleView, get_or, sum_by, take}
use Rattle.council_game.specs.Contribution.{share_of}
use Rattle.council_game.proofs.contribution.contribution.Given as goal

abbrev pub invariant-loop-rule : goal.invariant-loop-rule
invariant-loop-rule l = record {
  adds : l.sum ≡ sum_by (λ (r : RuleView). share_of r (get_or r.weights l.member 0)) (take l.rule l.game.rules);
  few : l.sum ≤ l.rule * 4000000000000000000;
}
