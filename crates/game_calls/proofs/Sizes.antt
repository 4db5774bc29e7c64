-- What is counted by size adds up.
use Rattle.std.proofs.Common.{◌≡◌, ◌∙◌, ℕ, ◌+◌, ◌*◌, ◌<◌, ◌==◌, ◌&&◌, Bool, true, List, length, cond, filter, sum_by, nat_le, refl, sym, ap, arith}
use Rattle.std.specs.List.{range_with_len}
use Rattle.std.proofs.lemmas.{Bool.Decides.nat_tests, Bool.and_parts, List.Recursion.is_sum_by, List.Sums.length-filter}
use Rattle.power_index.proofs.Shared.Sums.{sum-by_size, sum-range}

module _ (size : ℕ → ℕ) where
  -- a size from 0 to k is one of at most k
  within : (p : ℕ → Bool) (list : List ℕ) (k s : ℕ) → s < k + 1
      → length (filter (λ c. p c && (size c == s)) list) ≡ length (filter (λ c. (p c && nat_le (size c) k) && (size c == s)) list) * 1
  within p list k s lt =
      let alike : (c : ℕ) → (p c && (size c == s)) ≡ ((p c && nat_le (size c) k) && (size c == s)) = λ c. grind (arith, nat_tests) in
      length-filter (λ c. p c && (size c == s)) list
      ∙ (λ i. sum_by (λ c. cond (alike c i) 1 0) list)
      ∙ sym (length-filter (λ c. (p c && nat_le (size c) k) && (size c == s)) list)
      ∙ omega arith

  pub up-to : (p : ℕ → Bool) (list : List ℕ) (k : ℕ)
      → sum_by (λ s. length (filter (λ c. p c && (size c == s)) list)) (range_with_len 0 (k + 1)) ≡ length (filter (λ c. p c && nat_le (size c) k) list)
  up-to p list k =
      let small : ℕ → Bool = λ c. p c && nat_le (size c) k in
      sum-range _ (λ s. length (filter (λ c. small c && (size c == s)) list) * 1) 0 (k + 1) (λ s _ lt. within p list k s (omega (arith, lt)))
      ∙ sum-by_size (λ s. 1) size small 0 (k + 1) list (λ c met. grind (arith, nat_tests, met))
      ∙ sym (is_sum_by (λ xs. length xs) (λ x. 1) refl (λ x xs. omega arith) (filter small list))

  pub all-up-to : (list : List ℕ) (k : ℕ)
      → sum_by (λ s. length (filter (λ c. size c == s) list)) (range_with_len 0 (k + 1)) ≡ length (filter (λ c. nat_le (size c) k) list)
  all-up-to list k = up-to (λ c. true) list k
