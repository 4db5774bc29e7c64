use Rattle.std.proofs.Common.{◌≡◌, take}
use Rattle.council_game.specs.Rules.{way_views}
use Rattle.game_calls.proofs.new_games.copy_ways.Given as goal

abbrev pub invariant-loop-w : goal.invariant-loop-w
invariant-loop-w l = way_views l.ways.items ≡ take l.w l.game.ways
