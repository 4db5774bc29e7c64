-- What the members from a place on weigh by one rule for what they weigh by another.
use Rattle.mwc_walk.proofs.Imports.{◌+◌, ◌*◌, ◌<◌, ◌≤◌, arith, inl, inr, suc, ◌-◌, ◌/◌, ◌%◌, ◌^◌, List, ◌∷◌, length, take, drop}
use Rattle.mwc_walk.proofs.Imports.{mul-le, drop_all, get_or-take, weight}
use Rattle.mwc_walk.proofs.Imports.{IsPrice, get_or}
use Rattle.mwc_walk.proofs.Imports.{ap, ◌∙◌, length-drop, common_steps, cases_lt, ◌≡◌, ℕ}
use Rattle.mwc_walk.proofs.Imports.{Price}
use Rattle.std.proofs.Common.{length-take-le, drop-cons}
use Rattle.std.proofs.{Math.Nat.le_of_mul-le-mul_left}
use Rattle.std.specs.{Int.div_ceil}
use Rattle.council_game.proofs.Shared.WeightByDigits.{weight-nil, weight-cons}

-- a cheaper price is kept, too
still-kept : (a b i t f g : ℕ) → i * b ≤ a * t → a * f ≤ b * g → (b ≡ 0 → f ≡ 0) → i * f ≤ t * g
still-kept a b i t f g cheaper kept none =
    elim (cases_lt 0 b) [
      | inl some ↦
          let first : i * b * f ≤ a * t * f = mul-le (i * b) f (a * t) f cheaper (omega arith) in
          let second : t * (a * f) ≤ t * (b * g) = mul-le t (a * f) t (b * g) (omega arith) kept in
          let both : b * (i * f) ≤ b * (t * g) = omega (arith, first, second) in le_of_mul-le-mul_left both some
      | inr empty ↦
          let nothing : f ≡ 0 = none (omega arith) in rw nothing (omega arith)
    ]

-- with a cheaper member
pub price-falls : (p : Price) (i t f g d : ℕ) → 0 < t → i * p.other ≤ p.own * t → IsPrice p f g
    → IsPrice (record { own = i; other = t }) (d * t + f) (d * i + g)
price-falls p i t f g d some cheaper is =
    let kept = still-kept p.own p.other i t f g cheaper is.kept is.none in grind arith

-- with one who is not cheaper
pub price-stays : (p : Price) (i t f g d : ℕ) → p.own * t ≤ i * p.other → (p.other ≡ 0 → t ≡ 0) → IsPrice p f g
    → IsPrice p (d * t + f) (d * i + g)
price-stays p i t f g d dearer none is = grind (arith, mul-le d (p.own * t) d (i * p.other))

-- the least that is weighed: rounded up
pub rounded-up : (x b g : ℕ) → 0 < b → x ≤ b * g → div_ceil x b ≤ g
rounded-up x b g some le = grind arith

-- the member of place p, and those after it
pub weight-from : (ws : List ℕ) (n p c : ℕ) → p < n → n ≤ length ws
    → weight (drop p (take n ws)) c ≡ c / 2 ^ (n - (p + 1)) % 2 * get_or ws p 0 + weight (drop (p + 1) (take n ws)) c
weight-from ws n p c below le =
    let size : length (take n ws) ≡ n = length-take-le n ws le in
    let after : length (drop (p + 1) (take n ws)) ≡ n - (p + 1) = length-drop (p + 1) (take n ws) ∙ ap (λ (i : ℕ). i - (p + 1)) size in
    let cut : drop p (take n ws) ≡ get_or ws p 0 ∷ drop (p + 1) (take n ws) =
    (let e : suc p ≡ p + 1 = omega arith in rw e at (drop-cons (take n ws) p 0 (omega (arith, size)))) ∙ ap
    (λ (w : ℕ). w ∷ drop (p + 1) (take n ws)) (get_or-take n ws p 0 below) in grind (arith, weight-cons)

-- past the last place there is none
pub weight-past : (ws : List ℕ) (n p c : ℕ) → n ≤ p → n ≤ length ws → weight (drop p (take n ws)) c ≡ 0
weight-past ws n p c past le = grind (arith, common_steps, drop_all, length-take-le, weight-nil)

pub price-step : (n p : ℕ) (own other : List ℕ) (before after : Price) → p < n → n ≤ length own → n ≤ length other
    → ((f g d : ℕ) → IsPrice before f g → IsPrice after (d * get_or other p 0 + f) (d * get_or own p 0 + g))
    → (c : ℕ) → IsPrice before (weight (drop (p + 1) (take n other)) c) (weight (drop (p + 1) (take n own)) c)
    → IsPrice after (weight (drop p (take n other)) c) (weight (drop p (take n own)) c)
price-step n p own other before after below lo lt step c is =
    rw (weight-from other n p c below lt, weight-from own n p c below lo) (step _ _ (c / 2 ^ (n - (p + 1)) % 2) is)
