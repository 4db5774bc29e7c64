use Rattle.game_calls.proofs.Quotas.{copied-more}
use Rattle.std.proofs.Common.{arith}
use Rattle.game_calls.proofs.new_games.rules_at.Goals as goal

pub loop-r-preserved : goal.loop-r-preserved
loop-r-preserved c = grind (arith, copied-more)
