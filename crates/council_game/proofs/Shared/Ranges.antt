-- A range of numbers with one more, and what is added up over it.
use Rattle.std.proofs.Common.{◌≡◌, ℕ, ◌+◌, ◌≤◌, [], ◌∷◌, ◌++◌, take, ap, arith, refl, sum_by, map-id}
use Rattle.std.specs.List.{range_with_len}
use Rattle.std.proofs.lemmas.List.FromFn.{map-range_with_len_more, sum_by-map-range_with_len_more, take-map-range_with_len}
use Rattle.std.proofs.lemmas.List.Sums.{sum_by-take-le}

pub range-more : (a n : ℕ) → range_with_len a (n + 1) ≡ range_with_len a n ++ (a + n) ∷ []
range-more a n = simp map-id at (map-range_with_len_more (λ x. x) a n (a + n) refl)

-- one number more
pub sum_by-range-more : (f : ℕ → ℕ) (n : ℕ) → sum_by f (range_with_len 0 (n + 1)) ≡ sum_by f (range_with_len 0 n) + f n
sum_by-range-more f n = simp map-id at (sum_by-map-range_with_len_more f (λ x. x) 0 n n (omega arith))

-- a sum of fewer numbers is no greater
pub sum_by-range-le : (f : ℕ → ℕ) (k n : ℕ) → k ≤ n → sum_by f (range_with_len 0 k) ≤ sum_by f (range_with_len 0 n)
sum_by-range-le f k n le =
    let front : take k (range_with_len 0 n) ≡ range_with_len 0 k = simp map-id at (take-map-range_with_len (λ x. x) 0 n k le) in
    omega (arith, sum_by-take-le f (range_with_len 0 n) k, ap (sum_by f) front)
