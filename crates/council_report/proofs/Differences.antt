-- Where two coalitions differ first, and where the last member of one is.
use Rattle.council_report.proofs.Imports.{◌≡◌, ℕ, suc, ◌+◌, ◌-◌, ◌^◌, ◌<◌, ◌≤◌, bit_xor, arith, inl, inr, w64, leading_zeros, cases_lt}
use Rattle.council_report.proofs.Imports.{nat_tests, has, HasNoneFrom, SameBefore}
use Rattle.std.proofs.Common.{◌/◌, ◌%◌, pow-suc, pow_mono}
use Rattle.std.specs.Int.{trailing_zeros}
use Rattle.std.proofs.lemmas.Nat.{leading_length, xor_lt}
use Rattle.std.proofs.lemmas.Nat.Bits.{bit_at_xor, bit_at_above, bit_at-lt, bit_at-trailing_zeros}
use Rattle.council_game.proofs.Shared.Digits.{lowest-place}

-- equal digits
same-digit : (a b i : ℕ) → bit_xor a b / 2 ^ i % 2 ≡ 0 → a / 2 ^ i % 2 ≡ b / 2 ^ i % 2
same-digit a b i none = grind (arith, nat_tests, bit_at_xor, bit_at-lt)

-- how many binary digits their difference x has
pub record Differs (n a b x : ℕ) : Type 0 where
  pub digits : ℕ
  pub count : leading_zeros w64 x + digits ≡ 64
  pub within : digits ≤ n
  pub same : SameBefore n (n - digits) a b

pub differs : (n a b : ℕ) → n ≤ 40 → a < 2 ^ n → b < 2 ^ n → Differs n a b (bit_xor a b)
unfolding has
differs n a b few below_a below_b =
    let x : ℕ = bit_xor a b in
    let below : x < 2 ^ n = xor_lt n a b below_a below_b in
    let up : 2 ^ n ≤ 2 ^ 40 = pow_mono few in
    let wide : x < 2 ^ 64 = omega (arith, below, up) in
    let long = leading_length 64 x wide in
    let m : ℕ = long.0 in
    let short : m ≤ n =
    elim (cases_lt n m) [
      | inl lt ↦
          let less : suc n ≤ m = omega (arith, lt) in
          let most : 2 ^ suc n ≤ 2 ^ m = pow_mono less in
          let twice = pow-suc 2 n in
          absurd (omega (arith, most, twice, long.3, below))
      | inr ge ↦ ge
    ] in grind (arith, same-digit, bit_at_above)

-- after its last member none is in
pub none-behind : (n c : ℕ) → n ≤ 40 → 0 < c → c < 2 ^ n → (trailing_zeros w64 c ≤ n) × HasNoneFrom n (n - trailing_zeros w64 c) c
unfolding has
none-behind n c few pos below =
    let up : 2 ^ n ≤ 2 ^ 40 = pow_mono few in
    let wide : c < 2 ^ 64 = omega (arith, below, up) in
    let low = lowest-place n c few pos below in
    let digits = bit_at-trailing_zeros w64 c pos wide in grind (arith)

-- what the last place rests on
pub ruleset last = (none-behind)
