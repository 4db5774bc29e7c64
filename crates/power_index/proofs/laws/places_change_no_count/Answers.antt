use Rattle.power_index.proofs.Reordered.{counts-reordered}
use Rattle.power_index.proofs.laws.places_change_no_count.Goals as goal

pub returns : goal.returns
returns c = counts-reordered
