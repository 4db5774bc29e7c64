use Rattle.std.proofs.Common.{◌≡◌, ◌≢◌, ◌<◌, ℕ, length, slice_index_or, Less}
use Rattle.power_index.specs.Fractions.{fraction_cmp}
use Rattle.examples.proofs.tables.most_powerful.Given as goal

abbrev pub invariant-loop-i : goal.invariant-loop-i
invariant-loop-i l = (k : ℕ) → k < l.i → ((j : ℕ) → j < length l.indices → j ≢ k
    → fraction_cmp (slice_index_or l.indices j (0, 1)) (slice_index_or l.indices k (0, 1)) ≡ Less) → ⊥
