use Rattle.mwc_gather.proofs.Imports.{slices_of, AssignsFirst}
use Rattle.mwc_gather.proofs.scheduler.Scheduler.assign_first.Given as goal

abbrev pub invariant-loop-i : goal.invariant-loop-i
invariant-loop-i g l = AssignsFirst (slices_of l.job) l.job.most l.fn.self.stopped l.self l.i l.handles
