-- Masks, one member more.
use Rattle.std.proofs.Common.{◌≡◌, ◌∙◌, ap, suc, ◌<◌, ◌≤◌, ◌+◌, ◌^◌, ℕ, Bool, true, false, arith, refl, sum_by, if◌then◌else◌}
use Rattle.std.proofs.Math.{Nat.two-pow-succ, Pow.pow_mono}
use Rattle.std.specs.List.{range_with_len}
use Rattle.council_game.proofs.Shared.Ranges.{sum_by-range-more}
use Rattle.council_game.specs.Game.{GameView}
use Rattle.council_game.specs.Members.{contains}
use Rattle.council_c.specs.Masks.{digit_of}

-- what a member adds is at most its digit
at-most : (b : Bool) (n : ℕ) → (if b then n else 0) ≤ n
at-most true n = omega arith
at-most false n = omega arith

module _ (g : GameView) (c mask digit m : ℕ) (is : digit ≡ digit_of g c m) where
  pub more-below : mask < 2 ^ m → mask + digit < 2 ^ (m + 1)
  more-below below =
      let most : digit_of g c m ≤ 2 ^ m = at-most (contains g m c) (2 ^ m) in
      let next : m + 1 ≡ suc m = omega arith in
      let twice : 2 ^ (m + 1) ≡ 2 ^ m + 2 ^ m = ap (λ (k : ℕ). 2 ^ k) next ∙ two-pow-succ m in
      omega (arith, below, is, most, twice)

  pub more-fits : m < 40 → mask < 2 ^ m → mask + digit < 2 ^ 64
  more-fits few below =
      let more = more-below below in
      let within : 2 ^ (m + 1) ≤ 2 ^ 40 = pow_mono {i = m + 1} {j = 40} (omega (arith, few)) in
      omega (arith, more, within)

  pub more-mask : mask ≡ sum_by (digit_of g c) (range_with_len 0 m) → mask + digit ≡ sum_by (digit_of g c) (range_with_len 0 (m + 1))
  more-mask before = rw (sum_by-range-more (digit_of g c) m, before, is) refl
