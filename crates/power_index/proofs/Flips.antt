-- A coalition with a place or without it: how many there are of each.
use Rattle.std.proofs.Common.{◌≡◌, ◌∙◌, ℕ, ◌+◌, ◌-◌, ◌^◌, ◌<◌, ◌≤◌, ◌==◌, ◌&&◌, Bool, true, false, not, cond, sum_by}
use Rattle.std.proofs.Common.{ap, arith, inl, inr, ltb, zero, suc}
use Rattle.std.specs.List.{range_with_len}
use Rattle.std.proofs.lemmas.{Bool.Decides.nat_tests, Bool.cases_eq, Bool.cases_Bool, Bool.cases_lt, List.Sums.length-filter, List.Sums.sum_by-cons}
use Rattle.std.proofs.Math.Nat.{div-eq_of_lt}
use Rattle.council_game.specs.Coalitions.{has, size, with_member, without}
use Rattle.council_game.proofs.Shared.{Digits.added-below, Digits.digit-added, Digits.out-digit, Digits.has-gone, Digits.has-kept, Sums.sum-plus, Sums.sum-zero}
use Rattle.council_game.specs.Votes.{down}
use Rattle.council_game.proofs.Shared.Sets.{sum-down, sum-moved, sum-range}

pub and-swap : (a b : Bool) → (a && b) ≡ (b && a)
and-swap a b = grind (arith, nat_tests)

-- how many coalitions of n members pass a test
abbrev pub counted : ℕ → (ℕ → Bool) → ℕ
counted n test = sum_by (λ c. cond (test c) 1 0) (down (2 ^ n))

pub counted-same : (n : ℕ) (f g : ℕ → Bool) → ((c : ℕ) → c < 2 ^ n → f c ≡ g c) → counted n f ≡ counted n g
counted-same n f g same = sum-down (λ c. cond (f c) 1 0) (λ c. cond (g c) 1 0) (2 ^ n) (λ c lt. ap {B = ℕ} (λ (b : Bool). cond b 1 0) (same c lt))

-- those that pass either of two tests that none passes both
pub counted-split : (n : ℕ) (f g h : ℕ → Bool) → ((c : ℕ) → c < 2 ^ n → cond {A = ℕ} (f c) 1 0 ≡ cond (g c) 1 0 + cond (h c) 1 0)
    → counted n f ≡ counted n g + counted n h
counted-split n f g h split =
    sum-down (λ c. cond (f c) 1 0) (λ c. cond (g c) 1 0 + cond (h c) 1 0) (2 ^ n) split
    ∙ sum-plus (λ c. cond (g c) 1 0) (λ c. cond (h c) 1 0) (down (2 ^ n))

-- a place is one of those of a range
one-place : (p a n : ℕ) → a ≤ p → sum_by (λ q. cond (q == p) 1 0) (range_with_len a n) ≡ cond (ltb p (a + n)) 1 0
one-place p a zero from = grind (arith, nat_tests)
one-place p a (suc n) from =
    let past : p < a + 1 → sum_by (λ q. cond (q == p) 1 0) (range_with_len (a + 1) n) ≡ 0 =
    λ here. sum-range (λ q. cond (q == p) 1 0) (λ q. 0) (a + 1) n (λ q le _. grind (arith, nat_tests)) ∙ sum-zero (range_with_len (a + 1) n) in
    elim (cases_eq a p) [
      | inl same ↦ grind (arith, nat_tests, sum_by-cons (λ q. cond (q == p) 1 0) a (range_with_len (a + 1) n), past (omega (arith, same)))
      | inr other ↦ grind (arith, nat_tests, sum_by-cons (λ q. cond (q == p) 1 0) a (range_with_len (a + 1) n), one-place p (a + 1) n (omega (arith, from, other)))
    ]

module _ (n p : ℕ) (lt : p < n) where
  abbrev flip : ℕ → ℕ
  flip c = cond (has n p c) (without n p c) (with_member n p c)

  above : (c : ℕ) → has n p c ≡ true → 2 ^ (n - 1 - p) ≤ c
  unfolding has
  above c inside = elim (cases_lt c (2 ^ (n - 1 - p))) [
    | inl small ↦ absurd (grind (arith, nat_tests, div-eq_of_lt small))
    | inr enough ↦ enough
  ]

  pub added-has : (c : ℕ) → has n p c ≡ false → has n p (with_member n p c) ≡ true
  unfolding has with_member
  added-has c out = grind (arith, nat_tests, digit-added c (n - 1 - p) (out-digit n p c out))

  go : (c : ℕ) → c < 2 ^ n → (flip c < 2 ^ n) × (flip (flip c) ≡ c)
  unfolding without with_member
  go c below = elim (cases_Bool (has n p c)) [
    | inl inside ↦ (
      grind (arith, nat_tests),
      grind (arith, nat_tests, above c inside, has-gone n p c inside),
    )
    | inr out ↦ (
      grind (arith, nat_tests, added-below n p c lt below),
      grind (arith, nat_tests, added-has c out),
    )
  ]

  -- a coalition has one member more than without one of its members
  pub size-less : (c : ℕ) → has n p c ≡ true → size n c ≡ size n (without n p c) + 1
  size-less c inside =
      let d : ℕ = without n p c in
      let one : ℕ → ℕ = λ q. cond (q == p) 1 0 in
      let each : (q : ℕ) → q < n → cond {A = ℕ} (has n q c) 1 0 ≡ cond (has n q d) 1 0 + one q =
      λ q below. elim (cases_eq q p) [
        | inl same ↦ grind (arith, nat_tests, same, has-gone n p c inside, ap (λ (k : ℕ). has n k c) same, ap (λ (k : ℕ). has n k d) same)
        | inr other ↦ grind (arith, nat_tests, has-kept n q p c below lt other inside)
      ] in
      let sum = sum-range (λ q. cond (has n q c) 1 0) (λ q. cond (has n q d) 1 0 + one q) 0 n (λ q _ below. each q (omega (arith, below))) in
      let only : sum_by one (range_with_len 0 n) ≡ 1 = grind (arith, nat_tests, one-place p 0 n (omega arith), lt) in
      omega (
        arith,
        length-filter (λ q. has n q c) (range_with_len 0 n),
        length-filter (λ q. has n q d) (range_with_len 0 n),
        sum,
        sum-plus (λ q. cond (has n q d) 1 0) one (range_with_len 0 n),
        only,
      )

  -- coalitions with the place, by what they are without it
  pub flipped : (test : ℕ → Bool)
      → counted n (λ c. has n p c && test (without n p c)) ≡ counted n (λ c. not (has n p c) && test c)
  flipped test =
      let out : ℕ → ℕ = λ c. cond (not (has n p c) && test c) 1 0 in
      sum-down (λ c. cond (has n p c && test (without n p c)) 1 0) (λ c. out (flip c)) (2 ^ n)
      (λ c below. elim (cases_Bool (has n p c)) [
        | inl inside ↦ grind (arith, nat_tests, has-gone n p c inside)
        | inr gone ↦ grind (arith, nat_tests, added-has c gone)
      ])
      ∙ sum-moved out flip flip (2 ^ n) go go
