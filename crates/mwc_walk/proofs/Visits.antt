-- How many visits there are at the most, under any number of rules.
use Rattle.mwc_walk.proofs.Imports.{◌≡◌, ℕ, ◌+◌, ◌-◌, ◌*◌, ◌^◌, ◌≤◌, Bool, true, false, arith}
use Rattle.std.proofs.Common.{mul-le-mul}
use Rattle.mwc_walk.specs.Inner.Cursor.{FitVisits}

module _ (n b t x k p : ℕ) where
  -- coming back to a place before
  pub fit-up : (f : Bool) (y m q : ℕ) → f ≡ false → y * m ≡ x * k → FitVisits n b t f x k p → FitVisits n b t f y m q
  unfolding FitVisits
  fit-up f y m q stale same fit = rw (stale, same) (rw stale at fit)

  -- leaving the last member out
  pub fit-out : (f : Bool) → f ≡ false → 1 ≤ x → FitVisits n b t f x k p → FitVisits n b t true (x - 1) k p
  unfolding FitVisits
  fit-out f stale some fit =
      let left : t + n * (x * k) ≤ b + n * 2 ^ n = rw stale at fit in
      rw (let e : x - 1 + 1 ≡ x = omega (arith, some) in e) (omega (arith, left))

  -- taking the next member in
  pub fit-in : (f : Bool) (y m q u : ℕ) → f ≡ true → (y + 1) * m ≡ (x + 1) * k → q ≡ p + 1 → u ≤ t + 1
      → FitVisits n b t f x k p → FitVisits n b u f y m q
  unfolding FitVisits
  fit-in f y m q u fresh same next one fit =
      let left : t + n * ((x + 1) * k) ≤ b + n * 2 ^ n + p = rw fresh at fit in rw (fresh, same) (omega (arith, left, next, one))

  -- passing by what is below
  pub fit-pass : (f : Bool) (q : ℕ) → f ≡ true → 1 ≤ k → p ≤ n → FitVisits n b t f x k p → FitVisits n b t false x k q
  unfolding FitVisits
  fit-pass f q fresh some le fit =
      let left : t + n * ((x + 1) * k) ≤ b + n * 2 ^ n + p = rw fresh at fit in
      let more : n * 1 ≤ n * k = mul-le-mul (omega arith) some in omega (arith, left, le, more)

  pub fit-most : (f : Bool) → 1 ≤ k → p ≤ n → FitVisits n b t f x k p → t ≤ b + n * 2 ^ n
  unfolding FitVisits
  fit-most true some le fit = let more : n * 1 ≤ n * k = mul-le-mul (omega arith) some in omega (arith, fit, le, more)
  fit-most false some le fit = omega (arith, fit)

pub fit-start : (n b x k : ℕ) → (x + 1) * k ≤ 2 ^ n → FitVisits n b b true x k b
unfolding FitVisits
fit-start n b x k within = let all : n * ((x + 1) * k) ≤ n * 2 ^ n = mul-le-mul (omega arith) within in omega (arith, all)
