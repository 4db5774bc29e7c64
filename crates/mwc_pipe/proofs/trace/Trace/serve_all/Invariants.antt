use Rattle.std.proofs.Common.{take}
use Rattle.mwc_pipe.proofs.WholeRuns.{Replayed}
use Rattle.mwc_pipe.proofs.trace.Trace.serve_all.Given as goal

abbrev pub invariant-loop-step : goal.invariant-loop-step
invariant-loop-step g l =
    Replayed l.fn.pipe.capacity (take l.step-index l.steps) l.self.replies.items l.self.came.items l.self.gone.items l.pipe
