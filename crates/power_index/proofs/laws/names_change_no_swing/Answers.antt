use Rattle.power_index.proofs.SwingPlaces.{renamed-swings}
use Rattle.power_index.proofs.laws.names_change_no_swing.Goals as goal

pub returns : goal.returns
returns c = renamed-swings
