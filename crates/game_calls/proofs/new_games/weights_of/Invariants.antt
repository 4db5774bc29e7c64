use Rattle.std.proofs.Common.{◌≡◌, take}
use Rattle.council_game.specs.Votes.{rule_at}
use Rattle.game_calls.proofs.new_games.weights_of.Given as goal

abbrev pub invariant-loop-i : goal.invariant-loop-i
invariant-loop-i l = l.weights.items ≡ take l.i (rule_at l.game.rules l.rule).weights
