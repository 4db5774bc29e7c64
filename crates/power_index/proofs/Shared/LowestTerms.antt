-- The greatest common divisor by search is the one that Euclid's algorithm finds, and what it gives
-- is in lowest terms.
use Rattle.power_index.proofs.Imports.{◌≡◌, ℕ, zero, suc, ◌/◌, ◌%◌, ◌<◌, ◌≤◌, true, sym, ap, subst, arith, IsGcd, ◌∣◌, IsGcd-from_zero}
use Rattle.power_index.proofs.Imports.{◌*◌, SameFraction, eq_of_mul-eq-mul_right}
use Rattle.power_index.proofs.Imports.{IsGcd-from_mod, le_of_dvd, mod-lt, nat_tests, lowest_terms, IsLowestOf}
use Rattle.std.proofs.lemmas.{Bool.cond_both, Nat.Gcd.le_from_IsGcd, Nat.Gcd.dvd_of_mod-eq-zero, Nat.Gcd.mod-eq-zero_of_dvd}
use Rattle.std.proofs.Math.Nat.{one-dvd}
use Rattle.power_index.specs.Fractions.{divides_both, common_divisor_up_to, greatest_common_divisor, HasLowestTerms}
use Rattle.power_index.proofs.Quotients.{gcd-pos, quotient-pos, same_fraction, coprime}
use Rattle.power_index.proofs.Unique.{lowest-unique}

from-test : (a b d : ℕ) → divides_both a b d ≡ true → (d ∣ a) × (d ∣ b)
from-test a b d h = (dvd_of_mod-eq-zero d (grind (arith, nat_tests)), dvd_of_mod-eq-zero d (grind (arith, nat_tests)))

to-test : (a b d : ℕ) → d ∣ a → d ∣ b → divides_both a b d ≡ true
to-test a b d da db = grind (arith, nat_tests, mod-eq-zero_of_dvd d da, mod-eq-zero_of_dvd d db)

-- what the search finds divides both
found-divides : (a b n : ℕ) → (common_divisor_up_to a b n ∣ a) × (common_divisor_up_to a b n ∣ b)
unfolding common_divisor_up_to
found-divides a b zero = (one-dvd a, one-dvd b)
found-divides a b (suc n) =
    cond_both (divides_both a b (suc n)) (suc n) (common_divisor_up_to a b n) (λ d. (d ∣ a) × (d ∣ b)) (from-test a b (suc n))
    (λ fails. found-divides a b n)

-- and no common divisor that it came by is greater
found-greatest : (a b n d : ℕ) → 0 < d → d ≤ n → d ∣ a → d ∣ b → d ≤ common_divisor_up_to a b n
unfolding common_divisor_up_to
found-greatest a b zero d pos le da db = absurd (omega arith)
found-greatest a b (suc n) d pos le da db =
    let last : d ≡ suc n → divides_both a b (suc n) ≡ true = λ e. to-test a b (suc n) (subst (λ k. k ∣ a) e da) (subst (λ k. k ∣ b) e db) in
    let before : d ≤ n → d ≤ common_divisor_up_to a b n = λ low. found-greatest a b n d pos low da db in grind (arith, nat_tests)

pub gcd-is : (a b g : ℕ) → 0 < b → IsGcd a b g → greatest_common_divisor a b ≡ g
gcd-is a b g pos h =
    let both = found-divides a b b in grind (arith, nat_tests, found-greatest, le_of_dvd, gcd-pos, le_from_IsGcd)

-- two numbers have a greatest common divisor
some-gcd : (n a b : ℕ) → b ≤ n → (g : ℕ) × IsGcd a b g
some-gcd n a zero le = (a, IsGcd-from_zero a 0 (omega arith))
some-gcd zero a (suc b) le = absurd (omega arith)
some-gcd (suc n) a (suc b) le =
    let less : a % suc b < suc b = mod-lt a (omega arith) in
    let rest = some-gcd n (suc b) (a % suc b) (omega (arith, less)) in
    (rest.0, IsGcd-from_mod a (suc b) rest.0 rest.1)

-- dividing by the greatest common divisor gives lowest terms
pub divided-is_lowest : (a b g : ℕ) → 0 < b → IsGcd a b g → IsLowestOf (a, b) (a / g, b / g)
divided-is_lowest a b g pos h = grind (arith, coprime, gcd-pos, quotient-pos, same_fraction)

pub divided-is_terms : (a b g : ℕ) → 0 < b → IsGcd a b g → ◌≡◌ {A = ℕ × ℕ} (a / g, b / g) (lowest_terms (a, b))
unfolding lowest_terms
divided-is_terms a b g pos h = ap {B = ℕ × ℕ} (λ (d : ℕ). (a / d, b / d)) (sym (gcd-is a b g pos h))

pub lowest_terms-lowest : (p : ℕ × ℕ) → 0 < p.1 → IsLowestOf p (lowest_terms p)
lowest_terms-lowest p pos =
    let found = some-gcd p.1 p.0 p.1 (omega arith) in
    subst (IsLowestOf p) (divided-is_terms p.0 p.1 found.0 pos found.1) (divided-is_lowest p.0 p.1 found.0 pos found.1)

pub lowest_terms-only : (p q : ℕ × ℕ) → 0 < p.1 → IsLowestOf p q → q ≡ lowest_terms p
lowest_terms-only p q pos h = lowest-unique p q (lowest_terms p) pos h (lowest_terms-lowest p pos)

pub has_lowest_terms : (p : ℕ × ℕ) → 0 < p.1 → HasLowestTerms p
has_lowest_terms p pos = record { lowest = lowest_terms-lowest p pos; only = λ q h. lowest_terms-only p q pos h }

-- what is the same as one of two same fractions is the same as the other
pub carried : (a b c d l m : ℕ) → 0 < b → l * b ≡ a * m → a * d ≡ c * b → l * d ≡ c * m
carried a b c d l m pos e f = eq_of_mul-eq-mul_right b pos (l * d) (c * m) (omega (arith, ap (λ (n : ℕ). n * d) e, ap (λ (n : ℕ). n * m) f))

pub lowest_from_same : (p q : ℕ × ℕ) → 0 < p.1 → 0 < q.1 → SameFraction p q → lowest_terms p ≡ lowest_terms q
lowest_from_same p q pp pq e =
    let lp = lowest_terms-lowest p pp in
    lowest_terms-only q (lowest_terms p) pq (record {
      positive = lp.positive;
      same = carried p.0 p.1 q.0 q.1 (lowest_terms p).0 (lowest_terms p).1 pp lp.same e;
      lowest = lp.lowest;
    })
