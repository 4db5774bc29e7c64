use Rattle.std.proofs.Common.{◌≡◌, ◌≤◌, length}
use Rattle.council_game.specs.Game.{votes_of}
use Rattle.mwc_walk.specs.{Seeks.seeks_left, WalkView.given}
use Rattle.council_c.proofs.bounded.list_walked.Given as goal

abbrev pub invariant-loop-alloc : goal.invariant-loop-alloc
invariant-loop-alloc l = record {
  votes : l.walk.votes ≡ votes_of l.game;
  bits : l.walk.bits ≡ 0;
  number : l.walk.number ≡ 0;
  list : l.list.items ≡ given l.walk;
  few : length l.list.items ≤ l.most;
}

abbrev pub decreases-loop-alloc : goal.decreases-loop-alloc
decreases-loop-alloc l = seeks_left l.walk
