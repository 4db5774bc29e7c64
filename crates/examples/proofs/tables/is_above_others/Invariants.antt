use Rattle.std.proofs.Common.{◌≡◌, ◌≢◌, ◌<◌, ℕ, slice_index_or, Less}
use Rattle.power_index.specs.Fractions.{fraction_cmp}
use Rattle.examples.proofs.tables.is_above_others.Given as goal

abbrev pub invariant-loop-j : goal.invariant-loop-j
invariant-loop-j l = (k : ℕ) → k < l.j → k ≢ l.i
    → fraction_cmp (slice_index_or l.indices k (0, 1)) (slice_index_or l.indices l.i (0, 1)) ≡ Less
