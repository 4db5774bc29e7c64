use Rattle.power_index.specs.SwingIndices.{shapley_shubik}
use Rattle.power_index.proofs.Orders.{shapley-total}
use Rattle.power_index.proofs.laws.shapley_shubik_adds_up.Goals as goal

pub returns : goal.returns
unfolding shapley_shubik
returns c g i game = shapley-total g game
