use Rattle.mwc_gather.proofs.Imports.{◌≡◌, ℕ, List, All, flat_map, range_with_len, HasPieces}
use Rattle.mwc_gather.proofs.gathered.Gathered.in_order.Given as goal

abbrev pub invariant-loop-j : goal.invariant-loop-j
invariant-loop-j l = (slice : ℕ → List ℕ) → All (HasPieces slice) l.self.parts.items → l.all.items ≡ flat_map slice (range_with_len 0 l.j)
