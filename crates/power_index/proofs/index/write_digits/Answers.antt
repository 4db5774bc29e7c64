use Rattle.power_index.proofs.Imports.{arith, common_steps}
use Rattle.power_index.proofs.index.write_digits.Goals as goal

pub loop-digit-preserved : goal.loop-digit-preserved
loop-digit-preserved g c = grind (arith, common_steps)
