-- The numbers by size of a list, and what they add up to.
use Rattle.power_index.proofs.Imports.{◌≡◌, ◌∙◌, ◌==◌, ◌&&◌, ℕ, ◌+◌, ◌*◌, ◌<◌, ◌≤◌, List, length, get_or, Bool, sym, refl, arith, filter}
use Rattle.power_index.proofs.Imports.{sum_by, range_with_len, size, total_of_sizes, AreSizeCounts}
use Rattle.std.proofs.lemmas.List.Recursion.{is_sum_by}
use Rattle.council_game.proofs.Shared.Ranges.{sum_by-range-more, sum_by-range-le}
use Rattle.power_index.proofs.Shared.{Members.size-le, Sums.sum-range, Sums.sum-by_size, Sums.length-filter-le}

-- none of them is greater than the list is long
pub sizes-few : (n : ℕ) (p : ℕ → Bool) (list t : List ℕ) (s : ℕ) → s ≤ 40 → AreSizeCounts n p list t
    → get_or t s 0 ≤ length list
sizes-few n p list t s le h = omega (arith, h.each s le, length-filter-le (λ c. p c && (size n c == s)) list)

-- they add up to how many pass
pub sizes-total : (n : ℕ) (p : ℕ → Bool) (list t : List ℕ) → n ≤ 40 → AreSizeCounts n p list t
    → total_of_sizes n t ≡ length (filter p list)
sizes-total n p list t few h =
    sum-range (λ s. get_or t s 0) (λ s. length (filter (λ c. p c && (size n c == s)) list) * 1) 0 (n + 1)
    (λ s _ lt. omega (arith, h.each s (omega arith)))
    ∙ sum-by_size (λ s. 1) (size n) p 0 (n + 1) list (λ c _. (omega arith, omega (arith, size-le n c)))
    ∙ sym (is_sum_by (λ xs. length xs) (λ x. 1) refl (λ x xs. omega arith) (filter p list))

-- one size more
pub sizes-up : (t : List ℕ) (n s : ℕ) → s < n + 1
    → get_or t s 0 + sum_by (λ k. get_or t k 0) (range_with_len 0 s) ≤ total_of_sizes n t
sizes-up t n s lt = grind (arith, sum_by-range-more, sum_by-range-le (λ k. get_or t k 0) (s + 1) (n + 1))

pub ruleset one_more = (sizes-up, sum_by-range-more)
