-- A fraction has one form in lowest terms.
use Rattle.power_index.proofs.Imports.{IsGcd-from_zero, IsGcd-from_mod, div-add-mod, mod-lt, mul-le-mul, eq_of_mul-eq-mul_right, AreCoprime}
use Rattle.power_index.proofs.Imports.{◌≡◌, ◌∙◌, ℕ, ◌+◌, ◌*◌, ◌/◌, ◌%◌, ◌≤◌, ◌<◌, sym, ap, subst, arith, zero, suc, IsGcd, ◌∣◌, IsLowestOf}
use Rattle.power_index.proofs.Imports.{SameFraction}
use Rattle.std.proofs.{Common.mod-eq_of_lt, Math.Nat.add-mul-mod_self_left, Math.Nat.dvd-mod_iff, Math.Nat.dvd-mul_left}
use Rattle.std.proofs.lemmas.Nat.Gcd.{dvd_antisymm, dvd_refl, dvd-zero}
use Rattle.power_index.specs.Fractions.{IsIndex}

-- with 0, only 1 is coprime
one-with-zero : (x : ℕ) → AreCoprime x 0 → x ≡ 1
one-with-zero zero h = let two : 2 ≤ 1 = h 2 (dvd-zero 2) (dvd-zero 2) in absurd (omega arith)
one-with-zero (suc x) h = let le : suc x ≤ 1 = h (suc x) (dvd_refl (suc x)) (dvd-zero (suc x)) in omega arith

mul-mod : (m x y : ℕ) → 0 < m → 0 < y → m * x % (m * y) ≡ m * (x % y)
mul-mod m x y some pos =
    let parts : m * x ≡ m * (x % y) + m * y * (x / y) = omega (arith, ap (λ k. m * k) (div-add-mod x y)) in
    grind (arith, add-mul-mod_self_left, mod-eq_of_lt, mul-le-mul, mod-lt)

scaled : (n m x y : ℕ) → y ≤ n → 0 < m → AreCoprime x y → IsGcd (m * x) (m * y) m
scaled n m x zero le some h =
    let e : m * x ≡ m = ap (λ k. m * k) (one-with-zero x h) ∙ omega arith in
    subst (λ (k : ℕ). IsGcd (m * x) (m * 0) k) e (IsGcd-from_zero (m * x) (m * 0) (omega arith))
scaled zero m x (suc y) le some h = absurd (omega arith)
scaled (suc n) m x (suc y) le some h =
    let less : x % suc y < suc y = mod-lt x (omega arith) in
    let rest = scaled n m (suc y) (x % suc y) (omega (arith, less)) some (λ d dy dr. h d ((dvd-mod_iff d dy).0 dr) dy) in
    IsGcd-from_mod (m * x) (m * suc y) m (subst (λ (k : ℕ). IsGcd (m * suc y) k m) (sym (mul-mod m x (suc y) some (omega arith))) rest)

divides-other : (t u v : ℕ) → AreCoprime t u → u ∣ v * t → u ∣ v
divides-other t u zero h d = dvd-zero u
divides-other t u (suc v) h d = (scaled u (suc v) t u (omega arith) (omega arith) h).2 u d (dvd-mul_left u (suc v))

pub lowest-unique : (p q r : ℕ × ℕ) → 0 < p.1 → IsLowestOf p q → IsLowestOf p r → q ≡ r
lowest-unique p q r pos h k =
    let cross : q.0 * r.1 ≡ r.0 * q.1 =
    eq_of_mul-eq-mul_right p.1 pos (q.0 * r.1) (r.0 * q.1) (omega (arith, ap (λ v. v * r.1) h.same, ap (λ v. v * q.1) k.same)) in
    let a : q.1 ∣ r.1 = divides-other q.0 q.1 r.1 h.lowest
    (let e : r.0 * q.1 ≡ r.1 * q.0 = omega (arith, cross) in subst (λ (x : ℕ). q.1 ∣ x) e (dvd-mul_left q.1 r.0)) in
    let b : r.1 ∣ q.1 = divides-other r.0 r.1 q.1 k.lowest
    (let e : q.0 * r.1 ≡ q.1 * r.0 = omega (arith, cross) in subst (λ (x : ℕ). r.1 ∣ x) e (dvd-mul_left r.1 q.0)) in
    let bottoms : q.1 ≡ r.1 = dvd_antisymm a b in grind (arith, eq_of_mul-eq-mul_right)

-- two indices that are the same number
pub index_unique : (p q : ℕ × ℕ) → IsIndex p → IsIndex q → SameFraction p q → p ≡ q
index_unique p q h k same = grind (arith, lowest-unique)
