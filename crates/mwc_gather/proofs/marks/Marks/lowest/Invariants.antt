use Rattle.mwc_gather.proofs.Imports.{ℕ, ◌<◌, None, IsSome}
use Rattle.std.proofs.Common.{slice_index_or}
use Rattle.mwc_gather.proofs.marks.Marks.lowest.Given as goal

abbrev pub invariant-loop-slice : goal.invariant-loop-slice
invariant-loop-slice l = (k : ℕ) → k < l.slice → IsSome (slice_index_or l.self-inside.holders k None)
