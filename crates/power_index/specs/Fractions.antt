-- Fractions as pairs of a top and a bottom, their lowest terms, and how one is printed.
use Rattle.std.specs.Prelude.{◌≡◌, ℕ, zero, suc, ◌+◌, ◌*◌, ◌/◌, ◌%◌, ◌^◌, ◌<◌, ◌≤◌, ◌==◌, ◌&&◌, if◌then◌else◌, Bool, List, [], ◌∷◌}
use Rattle.std.specs.Int.{◌∣◌}
use Rattle.std.specs.declared.cmp.Ordering.{Ordering}
use Rattle.std.specs.Ordering.{nat_cmp}
use Rattle.power_index.specs.declared.fraction.Fraction.{Fraction}

-- a fraction as a pair
abbrev pub pair_of : Fraction → ℕ × ℕ
pair_of f = (f.top, f.bottom)

-- two pairs are the same fraction
abbrev pub SameFraction : ℕ × ℕ → ℕ × ℕ → Type 0
SameFraction p q = p.0 * q.1 ≡ q.0 * p.1

-- t and u have no common divisor above 1
abbrev pub AreCoprime : ℕ → ℕ → Type 0
AreCoprime t u = (d : ℕ) → d ∣ t → d ∣ u → d ≤ 1

-- q is the fraction p in lowest terms
pub record IsLowestOf (p q : ℕ × ℕ) : Type 0 where
  pub positive : 0 < q.1
  pub same : SameFraction q p
  pub lowest : AreCoprime q.0 q.1

-- what an index is: a pair from 0 to 1, with a bottom of 1 to 10^30, in lowest terms
pub record IsIndex (p : ℕ × ℕ) : Type 0 where
  pub some : 1 ≤ p.1
  pub at_most_one : p.0 ≤ p.1
  pub small : p.1 ≤ 10 ^ 30
  pub lowest : AreCoprime p.0 p.1

-- how two pairs with bottoms above 0 are ordered as fractions
abbrev pub fraction_cmp : ℕ × ℕ → ℕ × ℕ → Ordering
fraction_cmp p q = nat_cmp (p.0 * q.1) (q.0 * p.1)

-- a number that divides both a and b
abbrev pub divides_both : ℕ → ℕ → ℕ → Bool
divides_both a b d = (a % d == 0) && (b % d == 0)

-- the greatest number from 1 to n that divides both a and b
unfoldable pub common_divisor_up_to : ℕ → ℕ → ℕ → ℕ
common_divisor_up_to a b zero = 1
common_divisor_up_to a b (suc n) = if divides_both a b (suc n) then suc n else common_divisor_up_to a b n

-- the greatest common divisor of a and b, if b is above 0
abbrev pub greatest_common_divisor : ℕ → ℕ → ℕ
greatest_common_divisor a b = common_divisor_up_to a b b

-- a pair with a bottom above 0 in lowest terms
unfoldable pub lowest_terms : ℕ × ℕ → ℕ × ℕ
lowest_terms p = (p.0 / greatest_common_divisor p.0 p.1, p.1 / greatest_common_divisor p.0 p.1)

-- lowest terms are lowest, and a fraction has one form in lowest terms
pub record HasLowestTerms (p : ℕ × ℕ) : Type 0 where
  pub lowest : IsLowestOf p (lowest_terms p)
  pub only : (q : ℕ × ℕ) → IsLowestOf p q → q ≡ lowest_terms p

-- the sum of two pairs
abbrev pub pair_plus : ℕ × ℕ → ℕ × ℕ → ℕ × ℕ
pair_plus p q = (p.0 * q.1 + q.0 * p.1, p.1 * q.1)

-- the sum of a list of pairs
abbrev pub pair_sum : List (ℕ × ℕ) → ℕ × ℕ
pair_sum [] = (0, 1)
pair_sum (p ∷ ps) = pair_plus p (pair_sum ps)

-- pairs that add up to 1
pub record AddUpToOne (pairs : List (ℕ × ℕ)) : Type 0 where
  pub positive : 0 < (pair_sum pairs).1
  pub one : SameFraction (pair_sum pairs) (1, 1)

-- the sum of 1 / s over a list of sizes: a / b and 1 / s together are (a * s + b) / (b * s)
abbrev pub unit_sum : List ℕ → ℕ × ℕ
unit_sum [] = (0, 1)
unit_sum (s ∷ ss) = ((unit_sum ss).0 * s + (unit_sum ss).1, (unit_sum ss).1 * s)

-- a digit as its code
abbrev pub digit : ℕ → ℕ
digit n = 48 + n % 10

-- a number of millionths: one digit, a point and six digits
abbrev pub millionths : ℕ → List ℕ
millionths m =
    digit (m / 1000000) ∷ 46 ∷ digit (m / 100000) ∷ digit (m / 10000) ∷ digit (m / 1000)
    ∷ digit (m / 100) ∷ digit (m / 10) ∷ digit m ∷ []

-- a fraction as six decimals, cut off
abbrev pub decimals : ℕ × ℕ → List ℕ
decimals p = millionths (1000000 * p.0 / p.1)
