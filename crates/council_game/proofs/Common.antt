-- Members of two coalitions, by the digits of their masks.
use Rattle.std.proofs.Common.{◌≡◌, ◌∙◌, ◌<◌, ◌^◌, ◌-◌, ◌==◌, ◌&&◌, ◌||◌, ℕ, Bool, true, false, zero, suc, sym, ap, refl, arith, bit_and, bit_or}
use Prim.Native.Nat.{max, min}
use Rattle.std.specs.Int.{bit_at}
use Rattle.std.proofs.lemmas.Nat.Bits.{bit_at-lt, bit_at_and, bit_at_or}
use Rattle.std.proofs.lemmas.Nat.{and_le_l}
use Rattle.council_game.specs.Coalitions.{has}
use Rattle.council_game.proofs.Shared.Digits.{same-places}

either : (x y : ℕ) → x < 2 → y < 2 → (max x y == 1) ≡ (x == 1 || y == 1)
either zero zero lx ly = refl
either zero (suc zero) lx ly = refl
either (suc zero) zero lx ly = refl
either (suc zero) (suc zero) lx ly = refl
either (suc (suc x)) y lx ly = absurd (omega (arith, lx))
either x (suc (suc y)) lx ly = absurd (omega (arith, ly))

both : (x y : ℕ) → x < 2 → y < 2 → (min x y == 1) ≡ (x == 1 && y == 1)
both zero zero lx ly = refl
both zero (suc zero) lx ly = refl
both (suc zero) zero lx ly = refl
both (suc zero) (suc zero) lx ly = refl
both (suc (suc x)) y lx ly = absurd (omega (arith, lx))
both x (suc (suc y)) lx ly = absurd (omega (arith, ly))

pub has-or : (n p a c : ℕ) → has n p (bit_or a c) ≡ (has n p a || has n p c)
unfolding has
has-or n p a c = ap (λ (x : ℕ). x == 1) (bit_at_or a c (n - 1 - p))
    ∙ either (bit_at a (n - 1 - p)) (bit_at c (n - 1 - p)) (bit_at-lt a (n - 1 - p)) (bit_at-lt c (n - 1 - p))

pub has-and : (n p a c : ℕ) → has n p (bit_and a c) ≡ (has n p a && has n p c)
unfolding has
has-and n p a c = ap (λ (x : ℕ). x == 1) (bit_at_and a c (n - 1 - p))
    ∙ both (bit_at a (n - 1 - p)) (bit_at c (n - 1 - p)) (bit_at-lt a (n - 1 - p)) (bit_at-lt c (n - 1 - p))

-- one that has no member beside those of another is what it has in common with it
pub is-common : (n a c : ℕ) → a < 2 ^ n → ((p : ℕ) → p < n → has n p a ≡ true → has n p c ≡ true) → bit_and a c ≡ a
is-common n a c below subset = same-places n (bit_and a c) a (let le = and_le_l a c in omega (arith, le, below)) below
    (λ p lt. has-and n p a c ∙ kept (has n p a) (has n p c) (subset p lt))
  where
    kept : (x y : Bool) → (x ≡ true → y ≡ true) → (x && y) ≡ x
    kept true y h = h refl
    kept false y h = refl

-- and this is so only if it has none
pub common-is-all : (n a c : ℕ) → bit_and a c ≡ a → (p : ℕ) → has n p a ≡ true → has n p c ≡ true
common-is-all n a c same p inside = second (has n p a) (has n p c) (sym (has-and n p a c) ∙ ap (has n p) same ∙ inside)
  where
    second : (x y : Bool) → (x && y) ≡ true → y ≡ true
    second true y h = h
    second false true h = refl
    second false false h = h
