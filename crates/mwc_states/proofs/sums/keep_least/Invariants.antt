use Rattle.mwc_states.proofs.Imports.{AreLowered}
use Rattle.mwc_states.proofs.sums.keep_least.Given as goal

abbrev pub invariant-loop-k : goal.invariant-loop-k
invariant-loop-k l = AreLowered l.k l.initial.rows.items l.rows.items
