use Rattle.mwc_states.proofs.Imports.{◌-◌, length}
use Rattle.mwc_states.proofs.set_counts.+count_from.Given as goal

abbrev pub decreases-count_from : goal.decreases-count_from
decreases-count_from l = length l.levels.now - l.level
