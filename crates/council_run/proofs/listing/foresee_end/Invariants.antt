use Rattle.mwc_walk.specs.Seeks.{seeks_left}
use Rattle.council_run.proofs.listing.foresee_end.Given as goal

abbrev pub decreases-loop-walk : goal.decreases-loop-walk
decreases-loop-walk l = seeks_left l.walk
