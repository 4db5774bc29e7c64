use Rattle.power_index.proofs.Reordered.{symmetric-indices}
use Rattle.power_index.proofs.laws.symmetric_members_have_equal_indices.Goals as goal

pub returns : goal.returns
returns c = symmetric-indices
