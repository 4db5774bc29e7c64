use Rattle.std.proofs.Common.{arith, pow_mono}
use Rattle.power_index.proofs.swing_indices.coalitions.Goals as goal

pub returns : goal.returns
returns c = let few = pow_mono c.requires in grind (arith, few)
