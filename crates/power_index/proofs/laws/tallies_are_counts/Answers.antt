use Rattle.power_index.proofs.Shared.Sound.{tallies-are_counts}
use Rattle.power_index.proofs.laws.tallies_are_counts.Goals as goal

pub returns : goal.returns
returns c = tallies-are_counts
