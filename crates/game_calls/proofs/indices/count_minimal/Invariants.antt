use Rattle.std.proofs.Common.{◌≡◌, ◌+◌, length}
use Rattle.council_game.specs.{Game.votes_of, Votes.minimal_coalitions}
use Rattle.game_calls.proofs.indices.count_minimal.Given as goal

abbrev pub invariant-loop-coalition : goal.invariant-loop-coalition
invariant-loop-coalition l = l.count + length l.walk.to_come ≡ length (minimal_coalitions (votes_of l.game))

abbrev pub decreases-loop-coalition : goal.decreases-loop-coalition
decreases-loop-coalition l = length l.walk.to_come
