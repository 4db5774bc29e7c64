use Rattle.std.proofs.Common.{arith}
use Rattle.council_game.proofs.Shared.Ranges.{sum_by-range-more}
use Rattle.power_index.proofs.swings.Swings.all.Goals as goal

pub loop-member-preserved : goal.loop-member-preserved
loop-member-preserved c = grind (arith, sum_by-range-more)
