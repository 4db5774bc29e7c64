use Rattle.std.proofs.Common.{◌≡◌, ◌++◌, length}
use Rattle.mwc_pipe.proofs.trace.items_of.Given as goal

abbrev pub invariant-loop-item : goal.invariant-loop-item
invariant-loop-item g l = l.items.items ++ l.pipe.inside ≡ l.fn.pipe.inside

abbrev pub decreases-loop-item : goal.decreases-loop-item
decreases-loop-item g l = length l.pipe.inside
