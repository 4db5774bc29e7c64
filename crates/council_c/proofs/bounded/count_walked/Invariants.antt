use Rattle.std.proofs.Common.{◌≡◌}
use Rattle.council_game.specs.Game.{votes_of}
use Rattle.mwc_walk.specs.{Seeks.seeks_left, WalkView.given}
use Rattle.power_index.specs.Tables.{AreTallies}
use Rattle.council_c.proofs.bounded.count_walked.Given as goal

abbrev pub invariant-loop-alloc : goal.invariant-loop-alloc
invariant-loop-alloc l = record {
  votes : l.walk.votes ≡ votes_of l.game;
  bits : l.walk.bits ≡ 0;
  number : l.walk.number ≡ 0;
  tallies : AreTallies l.game (given l.walk) l.counts;
}

abbrev pub decreases-loop-alloc : goal.decreases-loop-alloc
decreases-loop-alloc l = seeks_left l.walk
