-- Taking a place away from a coalition leaves its other places.
use Rattle.std.proofs.Common.{◌≡◌, ◌≢◌, ◌∙◌, ℕ, ◌+◌, ◌-◌, ◌*◌, ◌/◌, ◌%◌, ◌^◌, ◌<◌, ◌≤◌, ◌==◌, true, false, zero, suc, sym, ap, arith}
use Rattle.std.proofs.Common.{eq-eqb, w64, bit_and, pow_pos, pow-add, eqb-true, mod-lt, pow_mono}
use Rattle.std.specs.Int.{trailing_zeros}
use Rattle.std.proofs.lemmas.Nat.Bits.{bit_at-lt, bit_at-trailing_zeros, bit_at_above, bit_at_cat_low, bit_at_cat_high, bit_at-suc}
use Rattle.std.proofs.lemmas.Nat.Bits.{bit_at-zero, bit_at_and, same_from_bits, same_from_bits_below}
use Rattle.std.proofs.lemmas.Nat.{mul-le, div-mul-add, and_block, and_le_r}
use Rattle.std.proofs.{Math.Nat.div-add-mod, lemmas.Bool.cases_lt, lemmas.Bool.eqb-false, lemmas.Bool.Decides.nat_tests}
use Rattle.council_game.specs.Coalitions.{has, without}

-- a number whose digit k is 1, with that digit and without
record Split (c k : ℕ) : Type 0 where
  high : ℕ
  low : ℕ
  small : low < 2 ^ k
  with_digit : c ≡ (2 * high + 1) * 2 ^ k + low
  without_digit : c - 2 ^ k ≡ 2 * high * 2 ^ k + low

split : (c k : ℕ) → c / 2 ^ k % 2 ≡ 1 → Split c k
split c k one =
    let odd : c / 2 ^ k ≡ 2 * (c / 2 ^ k / 2) + 1 = omega (arith, one) in
    let parts : c ≡ c / 2 ^ k * 2 ^ k + c % 2 ^ k = (let e = div-add-mod c (2 ^ k) in omega (arith, e)) in
    let whole : c ≡ (2 * (c / 2 ^ k / 2) + 1) * 2 ^ k + c % 2 ^ k = parts ∙ ap (λ (a : ℕ). a * 2 ^ k + c % 2 ^ k) odd in
    record {
      high = c / 2 ^ k / 2;
      low = c % 2 ^ k;
      small = mod-lt c (pow_pos k);
      with_digit = whole;
      without_digit = less c (c / 2 ^ k / 2) (2 ^ k) (c % 2 ^ k) whole;
    }
  where
    less : (c h m r : ℕ) → c ≡ (2 * h + 1) * m + r → c - m ≡ 2 * h * m + r
    less c h m r e = omega (arith, e)

-- the digits above the lowest are those of the half
above-lowest : (h i : ℕ) → 0 < i → (2 * h + 1) / 2 ^ i % 2 ≡ 2 * h / 2 ^ i % 2
above-lowest h zero pos = absurd (omega arith)
above-lowest h (suc i) pos = grind (arith, bit_at-suc)

pub digit-kept : (c k i : ℕ) → c / 2 ^ k % 2 ≡ 1 → i ≢ k → (c - 2 ^ k) / 2 ^ i % 2 ≡ c / 2 ^ i % 2
digit-kept c k i one other =
    let s = split c k one in
    grind (arith, cases_lt, bit_at_cat_low, above-lowest, bit_at_cat_high)

pub digit-gone : (c k : ℕ) → c / 2 ^ k % 2 ≡ 1 → (c - 2 ^ k) / 2 ^ k % 2 ≡ 0
digit-gone c k one =
    let s = split c k one in
    let zero-up : k - k ≡ 0 = omega arith in grind (arith, bit_at_cat_high)

-- with a digit that was 0, that digit is 1
pub digit-added : (c k : ℕ) → c / 2 ^ k % 2 ≡ 0 → (c + 2 ^ k) / 2 ^ k % 2 ≡ 1
digit-added c k out = grind (arith, mod-lt, pow_pos, div-add-mod, div-mul-add)

-- and a number of n digits still has n
pub digit-added_below : (n c k : ℕ) → k < n → c < 2 ^ n → c / 2 ^ k % 2 ≡ 0 → c + 2 ^ k < 2 ^ n
digit-added_below n c k lt below out =
    let low : c % 2 ^ k < 2 ^ k = mod-lt c (pow_pos k) in
    let parts : c ≡ c / 2 ^ k * 2 ^ k + c % 2 ^ k = (let e = div-add-mod c (2 ^ k) in omega (arith, e)) in
    let whole : 2 ^ n ≡ 2 * 2 ^ (n - 1 - k) * 2 ^ k = grind (arith, pow-add) in
    let high : c / 2 ^ k < 2 * 2 ^ (n - 1 - k) = grind (arith, cases_lt, mul-le) in
    let fits : (c / 2 ^ k + 2) * 2 ^ k ≤ 2 * 2 ^ (n - 1 - k) * 2 ^ k = grind (arith, mul-le) in
    omega (arith, fits, whole, parts, low)

pub out-digit : (n q c : ℕ) → has n q c ≡ false → c / 2 ^ (n - 1 - q) % 2 ≡ 0
unfolding has
out-digit n q c out = grind (arith, mod-lt, eqb-false)

pub has-beside : (n p q c : ℕ) → p < n → q < n → p ≢ q → has n q c ≡ false → has n p (c + 2 ^ (n - 1 - q)) ≡ has n p c
unfolding has
has-beside n p q c lp lq other out =
    let back : c + 2 ^ (n - 1 - q) - 2 ^ (n - 1 - q) ≡ c = omega arith in
    let kept = digit-kept (c + 2 ^ (n - 1 - q)) (n - 1 - q) (n - 1 - p) (digit-added c (n - 1 - q) (out-digit n q c out))
    (λ e. other (omega arith)) in
    ap (λ (x : ℕ). x == 1) (sym kept ∙ ap (λ (x : ℕ). x / 2 ^ (n - 1 - p) % 2) back)

pub added-below : (n q c : ℕ) → q < n → c < 2 ^ n → has n q c ≡ false → c + 2 ^ (n - 1 - q) < 2 ^ n
added-below n q c lt below out = digit-added_below n c (n - 1 - q) (omega arith) below (out-digit n q c out)

-- there is room for the digit of a place among 40
pub added-room : (n q c : ℕ) → n ≤ 40 → q < n → c < 2 ^ 40 → has n q c ≡ false → c + 2 ^ (n - 1 - q) < 2 ^ 40
added-room n q c few lt below out = digit-added_below 40 c (n - 1 - q) (omega arith) below (out-digit n q c out)

pub has-kept : (n p q c : ℕ) → p < n → q < n → p ≢ q → has n q c ≡ true → has n p (without n q c) ≡ has n p c
unfolding has without
has-kept n p q c lp lq other in' = grind (arith, digit-kept, eqb-true)

pub has-gone : (n q c : ℕ) → has n q c ≡ true → has n q (without n q c) ≡ false
unfolding has without
has-gone n q c in' = ap (λ (x : ℕ). x == 1) (digit-gone c (n - 1 - q) (eqb-true _ _ in'))

-- coalitions with the same places are the same
pub same-places : (n a c : ℕ) → a < 2 ^ n → c < 2 ^ n → ((p : ℕ) → p < n → has n p a ≡ has n p c) → a ≡ c
unfolding has
same-places n a c la lc same = same_from_bits_below n a c la lc (λ i lt.
    (let place : n - 1 - (n - 1 - i) ≡ i = omega (arith, lt) in
    grind (arith, nat_tests, bit_at-lt a i, bit_at-lt c i)))

pub has-none : (n p : ℕ) → has n p 0 ≡ false
unfolding has
has-none n p = ap (λ (x : ℕ). x == 1) (bit_at-zero (n - 1 - p))

-- the lowest place of a coalition that is not empty
pub lowest-place : (n c : ℕ) → n ≤ 40 → 0 < c → c < 2 ^ n → (trailing_zeros w64 c < n) × (has n (n - 1 - trailing_zeros w64 c) c ≡ true)
unfolding has
lowest-place n c few pos below =
    let up : 2 ^ n ≤ 2 ^ 40 = pow_mono few in
    let wide : c < 2 ^ 64 = omega arith in
    let z = bit_at-trailing_zeros w64 c pos wide in grind (arith, cases_lt, eq-eqb, bit_at_above)

pub without-less : (n q c : ℕ) → 0 < c → without n q c < c
unfolding without
without-less n q c pos = let digit = pow_pos (n - 1 - q) in omega (arith, digit)

and_odd : (h : ℕ) → bit_and (2 * h + 1) (2 * h) ≡ 2 * h
and_odd h =
    let block = and_block 1 h h 1 0 (omega arith) (omega arith) in
    let odd : h * 2 ^ 1 + 1 ≡ 2 * h + 1 = omega arith in
    let even : h * 2 ^ 1 + 0 ≡ 2 * h = omega arith in
    let same = same_from_bits (bit_and h h) h (λ i. bit_at_and h h i ∙ omega arith) in
    let last = and_le_r 1 0 in
    rw (odd, even, same) at block ∙ omega (arith, last)

-- of a number and one less, the lowest 1 is gone
cleared : (c k : ℕ) → c / 2 ^ k % 2 ≡ 1 → ((i : ℕ) → i < k → c / 2 ^ i % 2 ≡ 0) → bit_and c (c - 1) ≡ c - 2 ^ k
cleared c k one zeros =
    let s = split c k one in
    let pos = pow_pos k in
    let none : s.low ≡ 0 = same_from_bits_below k s.low 0 s.small pos
    (λ i lt. sym (bit_at_cat_low (2 * s.high + 1) k s.low i lt) ∙ ap (λ (x : ℕ). x / 2 ^ i % 2) (sym s.with_digit) ∙ zeros i lt
    ∙ sym (bit_at-zero i)) in
    let whole : c ≡ (2 * s.high + 1) * 2 ^ k + 0 = omega (arith, s.with_digit, none) in
    let less : c - 1 ≡ 2 * s.high * 2 ^ k + (2 ^ k - 1) = omega (arith, whole, pos) in
    grind (arith, and_block, and_odd)

-- with the lowest 1 cleared, the last place of a coalition is gone
pub lowest-cleared : (n c : ℕ) → n ≤ 40 → 0 < c → c < 2 ^ n → bit_and c (c - 1) ≡ without n (n - 1 - trailing_zeros w64 c) c
unfolding without
lowest-cleared n c few pos below =
    let up : 2 ^ n ≤ 2 ^ 40 = pow_mono few in
    let wide : c < 2 ^ 64 = omega arith in
    let z = bit_at-trailing_zeros w64 c pos wide in
    let lt = (lowest-place n c few pos below).0 in
    let place : n - 1 - (n - 1 - trailing_zeros w64 c) ≡ trailing_zeros w64 c = omega arith in
    cleared c (trailing_zeros w64 c) z.1 z.2 ∙ ap (λ (k : ℕ). c - 2 ^ k) (sym place)
