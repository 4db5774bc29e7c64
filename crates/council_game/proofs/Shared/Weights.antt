-- The weight of a coalition, split at a prefix of its places.
use Rattle.council_game.proofs.Imports.{nat_tests, ◌≡◌, ◌≢◌, ℕ, zero, suc, ◌+◌, ◌-◌, ◌*◌, ◌/◌, ◌%◌, ◌^◌, ◌<◌, ◌≤◌, List, [], ◌∷◌, ◌++◌}
use Rattle.council_game.proofs.Imports.{length, take, get_or, sum, ◌∙◌, arith, bit_at-lt, pow_pos, mul-le, sum_by-cons, common_steps}
use Rattle.council_game.proofs.Imports.{weight, digit-kept}
use Rattle.std.proofs.Common.{drop, div-add-mod', length-append, take-append-drop, length-drop}
use Rattle.std.proofs.lemmas.Nat.{mod_below, div-mul-add, mod-mul-add, Bits.bit_at_cat_low, Bits.bit_at_cat_high, Bits.bit_at-zero}
use Rattle.std.proofs.lemmas.List.{take_more}
use Rattle.council_game.proofs.Shared.Digits.{digit-gone}
use Rattle.council_game.proofs.{Monotone.weight-mono, Shared.WeightByDigits.weight-nil, Shared.WeightByDigits.weight-cons}

-- coalitions with the same digits at the places of ws weigh the same
weight-same : (ws : List ℕ) (a c : ℕ) → ((i : ℕ) → i < length ws → a / 2 ^ i % 2 ≡ c / 2 ^ i % 2) → weight ws a ≡ weight ws c
weight-same ws a c same = grind (arith, nat_tests, weight-mono)

-- digits above the places of vs weigh nothing
pub weight-skip : (vs : List ℕ) (x r : ℕ) → weight vs (x * 2 ^ length vs + r) ≡ weight vs r
weight-skip vs x r = weight-same vs (x * 2 ^ length vs + r) r (λ i lt. bit_at_cat_low x (length vs) r i lt)

-- the digits of two lists of places side by side
pub weight-cat : (ws vs : List ℕ) (x r : ℕ) → r < 2 ^ length vs → weight (ws ++ vs) (x * 2 ^ length vs + r) ≡ weight ws x + weight vs r
weight-cat [] vs x r h = weight-skip vs x r ∙ rw (weight-nil x) (omega arith)
weight-cat (w ∷ ws) vs x r h = grind (arith, nat_tests, weight-cat ws vs x r h, length-append, bit_at_cat_high, weight-cons)

pub weight-le : (ws : List ℕ) (c : ℕ) → weight ws c ≤ sum ws
weight-le [] c = omega (arith, weight-nil c)
weight-le (w ∷ ws) c =
    let d = mul-le (c / 2 ^ length ws % 2) w 1 w (let low = bit_at-lt c (length ws) in omega (arith, low)) (omega arith) in
    omega (arith, d, weight-le ws c, sum_by-cons (λ (y : ℕ). y) w ws, weight-cons w ws c)

pub weight-zero : (ws : List ℕ) → weight ws 0 ≡ 0
weight-zero [] = weight-nil 0
weight-zero (w ∷ ws) = rw (weight-cons w ws 0, bit_at-zero (length ws), weight-zero ws) (omega arith)

-- a coalition's weight is that of its first p places and that of the rest
pub weight-at : (ws : List ℕ) (p c : ℕ)
    → p ≤ length ws → weight ws c ≡ weight (take p ws) (c / 2 ^ (length ws - p)) + weight (drop p ws) (c % 2 ^ (length ws - p))
weight-at ws p c h =
    let e : length (drop p ws) ≡ length ws - p = length-drop p ws in
    let low : c % 2 ^ (length ws - p) < 2 ^ length (drop p ws) = rw e (mod_below c (2 ^ (length ws - p)) (pow_pos (length ws - p))) in
    rw (e, div-add-mod' c (2 ^ (length ws - p)), take-append-drop p ws) at
    (weight-cat (take p ws) (drop p ws) (c / 2 ^ (length ws - p)) (c % 2 ^ (length ws - p)) low)

-- a prefix with zeros after it weighs what its places weigh
pub weight-prefix : (ws : List ℕ) (p x : ℕ) → p ≤ length ws → weight ws (x * 2 ^ (length ws - p)) ≡ weight (take p ws) x
weight-prefix ws p x h =
    let pos : 0 < 2 ^ (length ws - p) = pow_pos (length ws - p) in
    let d : x * 2 ^ (length ws - p) / 2 ^ (length ws - p) ≡ x = grind (arith, div-mul-add) in
    let m : x * 2 ^ (length ws - p) % 2 ^ (length ws - p) ≡ 0 = grind (arith, mod-mul-add) in
    rw (d, m, weight-zero (drop p ws)) at (weight-at ws p (x * 2 ^ (length ws - p)) h) ∙ omega arith

-- one place more
pub weight-more : (ws : List ℕ) (p x b : ℕ) → p < length ws → b < 2
    → weight (take (p + 1) ws) (2 * x + b) ≡ weight (take p ws) x + b * get_or ws p 0
weight-more ws p x b h below =
    let e : x * 2 ^ length (get_or ws p 0 ∷ []) + b ≡ 2 * x + b = omega arith in
    grind (arith, nat_tests, common_steps, take_more, weight-cat, weight-cons, weight-nil)

-- If c has place q besides the places of a, it weighs more by that place.
weight-one_more : (ws : List ℕ) (a c k q : ℕ) → k + 1 + q ≡ length ws → a / 2 ^ k % 2 ≡ 0 → c / 2 ^ k % 2 ≡ 1
    → ((i : ℕ) → i ≢ k → a / 2 ^ i % 2 ≡ c / 2 ^ i % 2)
    → weight ws a + get_or ws q 0 ≡ weight ws c
weight-one_more [] a c k q place out inside same = absurd (omega arith)
weight-one_more (w ∷ vs) a c k zero place out inside same = grind (arith, nat_tests, weight-cons, weight-same)
weight-one_more (w ∷ vs) a c k (suc q) place out inside same =
    grind (arith, weight-cons w vs a, weight-cons w vs c, same (length vs) (omega arith), weight-one_more vs a c k q (omega arith) out inside same)

-- a set without one of its places weighs less by that place's weight
pub weight-without : (ws : List ℕ) (q c : ℕ) → q < length ws → c / 2 ^ (length ws - 1 - q) % 2 ≡ 1
    → weight ws (c - 2 ^ (length ws - 1 - q)) + get_or ws q 0 ≡ weight ws c
weight-without ws q c below inside = grind (arith, nat_tests, weight-one_more, digit-gone, digit-kept)
