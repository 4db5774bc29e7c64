use Rattle.mwc_states.proofs.Imports.{length}
use Rattle.mwc_states.proofs.sums.+list.Given as goal

abbrev pub decreases-list : goal.decreases-list
decreases-list l = length l.members.now
