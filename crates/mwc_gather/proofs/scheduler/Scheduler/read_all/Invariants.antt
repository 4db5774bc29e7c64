use Rattle.mwc_gather.proofs.Imports.{◌≡◌, true, false, take, All, slices_of, AssignsTo}
use Rattle.mwc_gather.proofs.scheduler.Scheduler.read_all.Given as goal

abbrev pub invariant-loop : goal.invariant-loop
invariant-loop g l = AssignsTo (slices_of l.job) l.job.most l.fn.self.stopped l.self l.handles

-- if none of the first handles is still running, each has ended
abbrev pub invariant-loop-i : goal.invariant-loop-i
invariant-loop-i g l = AssignsTo (slices_of l.job) l.job.most l.fn.self.stopped l.self l.handles
    × (l.running ≡ false → All (λ d. d.ended ≡ true) (take l.i l.handles))
