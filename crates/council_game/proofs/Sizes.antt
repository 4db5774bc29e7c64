-- The size of a coalition by its binary digits.
use Rattle.std.proofs.Common.{◌≡◌, ℕ, zero, suc, ◌+◌, ◌-◌, ◌*◌, ◌/◌, ◌%◌, ◌^◌, ◌<◌, ◌≤◌, length, sym, ap, ◌∙◌, arith, count_ones, filter}
use Rattle.std.proofs.Common.{mod-eq_of_lt, mod-lt, pow_pos, eqb-true}
use Rattle.std.specs.{Int.Count.ones-ones, List.range_with_len}
use Rattle.std.proofs.lemmas.{Bool.cond_both, Bool.eqb-false, Bool.Decides.nat_tests, Nat.ones_cat, Nat.ones-le, Nat.mod-pow-add, Nat.one_shl}
use Rattle.std.proofs.lemmas.Grind.{common_steps}
use Rattle.council_game.specs.Coalitions.{has, size}

bit-ones : (b : ℕ) → b < 2 → count_ones b ≡ b
bit-ones zero h = let le = ones-le 0 0 (omega arith) in omega arith
bit-ones (suc zero) h = ones-ones 1
bit-ones (suc (suc b)) h = absurd (omega arith)

-- of the n places from a on, as many are in c as its n lowest digits have ones
size-from : (m a n c : ℕ) → m ≡ a + n → length (filter (λ p. has m p c) (range_with_len a n)) ≡ count_ones (c % 2 ^ n)
unfolding has
size-from m a zero c e = let z : c % 2 ^ 0 ≡ 0 = omega arith in sym (ap count_ones z ∙ bit-ones 0 (omega arith))
size-from m a (suc n) c e =
    let rest = size-from m (a + 1) n c (omega arith) in
    let one_more : suc n ≡ 1 + n = omega arith in
    let parts : c % 2 ^ suc n ≡ c / 2 ^ n % 2 * 2 ^ n + c % 2 ^ n = ap (λ (k : ℕ). c % 2 ^ k) one_more ∙ mod-pow-add c 1 n in
    let both : count_ones (c % 2 ^ suc n) ≡ c / 2 ^ n % 2 + count_ones (c % 2 ^ n) =
    grind (arith, ones_cat, mod-lt, pow_pos, bit-ones) in
    grind (arith, cond_both, eqb-true, eqb-false)

-- digits above those of the places count for nothing
pub size-low : (n c : ℕ) → size n c ≡ count_ones (c % 2 ^ n)
size-low n c = size-from n 0 n c (omega arith)

pub size-ones : (n c : ℕ) → c < 2 ^ n → size n c ≡ count_ones c
size-ones n c below = size-low n c ∙ ap count_ones (mod-eq_of_lt below)

-- the ones below a place's digit, as the code counts them
pub ones-low : (n c : ℕ) → n ≤ 40 → count_ones (c % (1 * 2 ^ n % 18446744073709551616)) ≡ size n c
ones-low n c few = ap (λ (k : ℕ). count_ones (c % k)) (one_shl n 64 (omega arith)) ∙ sym (size-low n c)

pub ones-few : (n c : ℕ) → n ≤ 40 → count_ones (c % (1 * 2 ^ n % 18446744073709551616)) ≤ n
ones-few n c few =
    let low = ones-le n (c % 2 ^ n) (mod-lt c (pow_pos n)) in
    omega (arith, low, ap (λ (k : ℕ). count_ones (c % k)) (one_shl n 64 (omega arith)))

-- a place's digit, as the code makes it
pub digit-shifted : (n p : ℕ) → n ≤ 40 → p < n → 1 * 2 ^ (n - 1 - p) % 18446744073709551616 ≡ 2 ^ (n - 1 - p)
digit-shifted n p few below = grind (arith, nat_tests, common_steps, mod-eq_of_lt)
