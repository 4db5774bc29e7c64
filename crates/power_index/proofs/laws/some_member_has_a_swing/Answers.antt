use Rattle.power_index.proofs.SwingBounds.{all-some}
use Rattle.power_index.proofs.laws.some_member_has_a_swing.Goals as goal

pub returns : goal.returns
returns c = all-some
