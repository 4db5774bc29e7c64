use Rattle.std.proofs.Common.{◌≡◌, ◌++◌, length}
use Rattle.council_game.specs.{Game.votes_of, Votes.minimal_coalitions, Votes.rule_at, Votes.weight}
use Rattle.mwc_walk.specs.{Laws.IsLeast, WalkView.given}
use Rattle.examples.proofs.coalitions.lightest.Given as goal

abbrev pub invariant-loop-coalition : goal.invariant-loop-coalition
invariant-loop-coalition l = record {
  whole : given l.walk ++ l.walk.to_come ≡ minimal_coalitions (votes_of l.game);
  least : IsLeast (weight (rule_at (votes_of l.game).rules 0).weights) (given l.walk) l.best;
}

abbrev pub decreases-loop-coalition : goal.decreases-loop-coalition
decreases-loop-coalition l = length l.walk.to_come
