use Rattle.power_index.proofs.Reordered.{renamed-counts}
use Rattle.power_index.proofs.laws.names_change_no_count.Goals as goal

pub returns : goal.returns
returns c = renamed-counts
