-- Two fractions are ordered by their quotients, and if these are equal by what is left, turned
-- upside down.
use Rattle.power_index.proofs.Imports.{◌≡◌, ◌∙◌, ◌≢◌, ℕ, suc, ◌+◌, ◌*◌, ◌/◌, ◌%◌, ◌<◌, ◌≤◌, ap, refl, arith, inl, inr, cases_lt, cases_eq}
use Rattle.power_index.proofs.Imports.{div-add-mod, mod-lt, mul-le-mul, nat_tests}
use Rattle.std.proofs.Common.{nat_cmp}
use Rattle.std.specs.Ordering.{ordering_then}

-- a times d is the shared part and what is left of a, times d
parts : (a b d q : ℕ) → a / b ≡ q → a * d ≡ b * d * q + d * (a % b)
parts a b d q h = grind (arith, div-add-mod)

-- with one quotient, a / b is to c / d as d / (c % d) is to b / (a % b)
pub turned : (a b c d : ℕ) → a / b ≡ c / d → nat_cmp (d * (a % b)) (b * (c % d)) ≡ nat_cmp (a * d) (c * b)
turned a b c d h =
    let second : c * b ≡ b * d * (c / d) + b * (c % d) = parts c d b (c / d) (λ i. c / d)
    ∙ ap (λ (n : ℕ). n * (c / d) + b * (c % d)) (omega arith) in
    grind (arith, nat_tests, parts)

-- a smaller quotient is a smaller fraction
below : (a b c d : ℕ) → 0 < b → 0 < d → a / b < c / d → a * d < c * b
below a b c d pos pos' h =
    let one : d * suc (a % b) ≤ d * b = mul-le-mul (omega arith) (mod-lt a pos) in
    let more : b * d * suc (a / b) ≤ b * d * (c / d) = mul-le-mul (omega arith) h in
    omega (arith, one, more, parts a b d (a / b) refl, parts c d b (c / d) refl, pos')

-- if the quotients differ, or nothing is left of one, these and what is left decide
pub decided : (a b c d : ℕ) → 0 < b → 0 < d → (a / b ≡ c / d → a % b ≢ 0 → c % d ≡ 0)
    → ordering_then (nat_cmp (a / b) (c / d)) (nat_cmp (a % b) (c % d)) ≡ nat_cmp (a * d) (c * b)
decided a b c d pos pos' stop = elim (cases_lt (a / b) (c / d)) [
  | inl lt ↦ let less = below a b c d pos pos' lt in grind (arith, nat_tests)
  | inr ge ↦ elim (cases_eq (a / b) (c / d)) [
    | inl same ↦ let e = last (a % b) (c % d) (stop same) ∙ turned a b c d same in grind (arith, nat_tests)
    | inr other ↦ let more = below c d a b pos' pos (omega (arith, ge, other)) in grind (arith, nat_tests)
  ]
]
  where
    last : (r s : ℕ) → (r ≢ 0 → s ≡ 0) → nat_cmp r s ≡ nat_cmp (d * r) (b * s)
    last r s h =
        let p : 1 * s ≤ b * s = mul-le-mul pos (omega arith) in
        let q : 1 * r ≤ d * r = mul-le-mul pos' (omega arith) in
        grind (arith, nat_tests, p, q, h, cases_eq r 0)
