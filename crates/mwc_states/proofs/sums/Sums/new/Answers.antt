use Rattle.mwc_states.proofs.{Imports.arith, Merging.sums-lowered}
use Rattle.mwc_states.proofs.sums.Sums.new.Goals as goal

pub returns : goal.returns
returns c = sums-lowered (c.in_ok-list.ensures (omega arith)) c.keep_least.ensures
