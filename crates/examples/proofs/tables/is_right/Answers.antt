use Rattle.std.proofs.Common.{ℕ, ◌*◌, ◌^◌, ◌<◌, ◌≤◌, Fits, arith}
use Rattle.std.specs.Int.{w128}
use Rattle.std.proofs.lemmas.Nat.{mul-le}
use Rattle.examples.proofs.tables.is_right.Goals as goal

fits : (a b : ℕ) → a ≤ 10 ^ 30 → b < 65536 → Fits w128 (a * b)
fits a b few small = let le = mul-le a b (10 ^ 30) 65535 few (omega arith) in omega (arith, le)

swapped : (a b : ℕ) → a ≤ 10 ^ 30 → b < 65536 → Fits w128 (b * a)
swapped a b few small = let le = mul-le b a 65535 (10 ^ 30) (omega arith) few in omega (arith, le)

pub overflow_mul-by_index : goal.overflow_mul-by_index
overflow_mul-by_index c = fits _ _ (omega (arith, c.bottom-bottom.ensures.small)) (omega arith)

pub overflow_mul-by_row : goal.overflow_mul-by_row
overflow_mul-by_row c = swapped _ _ (omega (arith, c.bottom-bottom.ensures.small)) (omega arith)
