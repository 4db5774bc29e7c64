use Rattle.mwc_gather.proofs.Imports.{◌≡◌, ℕ, List, All, map, range_with_len, HasPieces}
use Rattle.mwc_gather.proofs.gathered.Gathered.pieces.Given as goal

abbrev pub invariant-loop-number : goal.invariant-loop-number
invariant-loop-number l =
    (slice : ℕ → List ℕ) → All (HasPieces slice) l.self.parts.items → map (λ p. p.now) l.row.items ≡ map slice (range_with_len 0 l.number)
