use Rattle.std.proofs.Common.{◌<◌, ℕ, slice_index_or}
use Rattle.power_index.specs.Fractions.{SameFraction}
use Rattle.examples.proofs.tables.first_wrong_row.Given as goal

abbrev pub invariant-loop-k : goal.invariant-loop-k
invariant-loop-k l = (j : ℕ) → j < l.k → SameFraction (slice_index_or l.indices j (0, 1)) (slice_index_or l.table j (0, 1))
