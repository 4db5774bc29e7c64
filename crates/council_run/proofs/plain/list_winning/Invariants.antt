use Rattle.std.proofs.Common.{◌≡◌, ◌≤◌, ◌++◌, ◌^◌, filter}
use Rattle.council_game.specs.{Game.votes_of, Votes.down, Votes.wins}
use Rattle.power_index.specs.Swings.{winning_coalitions}
use Rattle.council_run.proofs.plain.list_winning.Given as goal

abbrev pub invariant-loop-mask : goal.invariant-loop-mask
invariant-loop-mask l = record {
  range : l.mask ≤ 2 ^ 20;
  done : l.list.items ++ filter (wins (votes_of l.game)) (down l.mask) ≡ winning_coalitions l.game;
}
