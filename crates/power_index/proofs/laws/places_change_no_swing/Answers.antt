use Rattle.power_index.proofs.SwingPlaces.{winning-reordered}
use Rattle.power_index.proofs.laws.places_change_no_swing.Goals as goal

pub returns : goal.returns
returns c = λ g h t is_g is_h names rules ways. winning-reordered g h is_g is_h names rules ways t
