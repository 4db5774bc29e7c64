use Rattle.std.proofs.Common.{append_assoc, length-append}
use Rattle.mwc_walk.proofs.Imports.{arith, common_steps}
use Rattle.mwc_walk.proofs.slices.list_next.Goals as goal

pub returns-clause-list : goal.returns-clause-list
returns-clause-list c = grind (arith, common_steps)

pub returns-clause-rest : goal.returns-clause-rest
returns-clause-rest c = grind (arith, common_steps)

pub loop-preserved : goal.loop-preserved
loop-preserved c = grind (arith, append_assoc, length-append)
