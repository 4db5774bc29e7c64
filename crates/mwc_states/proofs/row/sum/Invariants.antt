use Rattle.mwc_states.proofs.Imports.{take, IsTotal}
use Rattle.mwc_states.proofs.row.sum.Given as goal

abbrev pub invariant-loop-row : goal.invariant-loop-row
invariant-loop-row l = IsTotal (take l.row-index l.rows) l.sum
