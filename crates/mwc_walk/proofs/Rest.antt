-- The numbers below a bound, descending, filtered, and what is left of a slice at a place of the
-- walk.
use Rattle.mwc_walk.proofs.Imports.{mul-le, and_left, eq-eqb, cond-true, false_from_ne_true, both_ways, bit_at_cat_low, Votes, IsVotes, has}
use Rattle.mwc_walk.proofs.Imports.{pow-add, slice_below, reaches, wins_at, NothingBelow, lowest-place, w64, trailing_zeros, eqb-true, refl}
use Rattle.mwc_walk.proofs.Imports.{without, minimal, minimal_coalitions, minimal_below, needs-each-member, slice, in_slice, ◌-◌, ◌%◌, ap}
use Rattle.mwc_walk.proofs.Imports.{◌≡◌, ℕ, zero, suc, ◌+◌, ◌*◌, ◌/◌, ◌^◌, ◌<◌, ◌≤◌, Bool, true, false, eqb, List, [], ◌∷◌, ◌++◌, ◌∙◌}
use Rattle.mwc_walk.proofs.Imports.{arith, filter, append-nil, filter-append, pow_pos, down}
use Rattle.std.proofs.{Common.zero-add, Common.ne_eqb, Math.Bool.and-true, Math.Nat.lt-div-mul-add, lemmas.Bool.and_right}
use Rattle.council_game.proofs.Shared.Sums.{filter-both}
use Rattle.mwc_walk.proofs.Rules.{wins-below, loses-below}

-- the numbers from low on, as many as there are more
abbrev pub above : ℕ → ℕ → List ℕ
above low zero = []
above low (suc more) = (low + more) ∷ above low more

pub down-split : (low more : ℕ) → down (low + more) ≡ above low more ++ down low
unfolding down
down-split low zero = ap down (let e : low + 0 ≡ low = omega arith in e)
down-split low (suc more) =
    let e : low + suc more ≡ suc (low + more) = omega arith in
    ap down e ∙ ap (λ (l : List ℕ). (low + more) ∷ l) (down-split low more)

-- tests that agree on these numbers
filter-above : (p q : ℕ → Bool) (low more : ℕ) → ((c : ℕ) → low ≤ c → c < low + more → p c ≡ q c)
    → filter p (above low more) ≡ filter q (above low more)
filter-above p q low zero same = refl
filter-above p q low (suc more) same = grind (arith, filter-above p q low more (λ c from to. same c from (omega arith)))

-- numbers that fail the test may be left out at the top
pub filter-down_skip : (p : ℕ → Bool) (low more : ℕ) → ((c : ℕ) → low ≤ c → c < low + more → p c ≡ false)
    → filter p (down (low + more)) ≡ filter p (down low)
unfolding down
filter-down_skip p low zero fails = grind arith
filter-down_skip p low (suc more) fails =
    let e : low + suc more ≡ suc (low + more) = omega arith in
    grind (arith, filter-down_skip p low more (λ c from to. fails c from (omega arith)))

pub filter-filter_skip : (q p : ℕ → Bool) (low more : ℕ) → ((c : ℕ) → low ≤ c → c < low + more → q c ≡ false)
    → filter q (filter p (down (low + more))) ≡ filter q (filter p (down low))
filter-filter_skip q p low more fails = grind (arith, and_right, filter-down_skip, filter-both)

pub filter-filter_none : (q p : ℕ → Bool) (n : ℕ) → ((c : ℕ) → c < n → q c ≡ false) → filter q (filter p (down n)) ≡ []
unfolding down
filter-filter_none q p n fails = rw zero-add at (filter-filter_skip q p 0 n (λ c from to. fails c (omega arith)))

-- a number that passes is the first
pub filter-down_take : (p : ℕ → Bool) (c : ℕ) → p c ≡ true → filter p (down (c + 1)) ≡ c ∷ filter p (down c)
filter-down_take p c passes = grind (arith, down-split)

-- the top, which passes q, then the rest, which does not
pub filter-block : (q p : ℕ → Bool) (low more : ℕ) → ((c : ℕ) → low ≤ c → c < low + more → q c ≡ true) → ((c : ℕ) → c < low → q c ≡ false)
    → filter p (down (low + more)) ≡ filter q (filter p (down (low + more))) ++ filter p (down low)
filter-block q p low more passes fails =
    let top : filter q (filter p (above low more)) ≡ filter p (above low more) =
    filter-both p q (above low more) ∙ filter-above _ p low more (λ c from to. rw (passes c from to) (and-true (p c))) in
    let none = filter-filter_none q p low fails in grind (arith, down-split, filter-append, append-nil)

-- ---- the numbers of a block, which have one quotient
pub block-prefix : (x h c : ℕ) → x * 2 ^ h ≤ c → c < x * 2 ^ h + 2 ^ h → c / 2 ^ h ≡ x
block-prefix x h c low high = grind arith

pub before-block : (x h c : ℕ) → c < x * 2 ^ h → eqb (c / 2 ^ h) x ≡ false
before-block x h c high = grind arith

pub past-block : (x h c : ℕ) → (x + 1) * 2 ^ h ≤ c → eqb (c / 2 ^ h) x ≡ false
past-block x h c low = grind (arith, lt-div-mul-add, ne_eqb, pow_pos)

-- ---- what is left of a slice
-- a digit that is set
some_digit : (h r : ℕ) → h ≤ 40 → 0 < r → r < 2 ^ h → (b : ℕ) × (b < h) × (2 ^ b ≤ r) × (r / 2 ^ b % 2 ≡ 1)
unfolding has
some_digit h r few pos below =
    let last = lowest-place h r few pos below in
    let back : h - 1 - (h - 1 - trailing_zeros w64 r) ≡ trailing_zeros w64 r = omega (arith, last.0) in
    let digit = eqb-true _ _ (rw back at last.1) in
    (trailing_zeros w64 r, last.0, grind arith, digit)

pub next-block : (x h : ℕ) → (x + 1) * 2 ^ h ≡ x * 2 ^ h + 2 ^ h
next-block x h = omega arith

-- below a winning prefix nothing is minimal but the prefix with zeros
above-not_minimal : (v : Votes) (p x c : ℕ) → IsVotes v → p ≤ v.members → wins_at v p x ≡ true → x * 2 ^ (v.members - p) < c
    → c < x * 2 ^ (v.members - p) + 2 ^ (v.members - p) → minimal v c ≡ true → ⊥
unfolding has without
above-not_minimal v p x c game le win low high min =
    let found = some_digit (v.members - p) (c - x * 2 ^ (v.members - p)) (omega (arith, game.few)) (omega arith) (omega arith) in
    let e : c ≡ x * 2 ^ (v.members - p) + (c - x * 2 ^ (v.members - p)) = omega arith in
    let digit : c / 2 ^ found.0 % 2 ≡ 1 = grind (arith, bit_at_cat_low) in
    let place : v.members - 1 - (v.members - 1 - found.0) ≡ found.0 = omega arith in
    let inside : eqb (c / 2 ^ (v.members - 1 - (v.members - 1 - found.0)) % 2) 1 ≡ true = grind (arith, eq-eqb) in
    let prefix : (c - 2 ^ found.0) / 2 ^ (v.members - p) ≡ x = grind (arith, block-prefix) in
    grind (arith, both_ways, wins-below, needs-each-member)

-- a prefix that cannot reach some quota has nothing below it
pub dead-nothing : (v : Votes) (p x : ℕ) → IsVotes v → p ≤ v.members → reaches v p x ≡ false → NothingBelow v p x
dead-nothing v p x game le dead = λ c prefix. unfold minimal in grind (arith, and_left, false_from_ne_true, both_ways, loses-below)

-- if nothing is below a prefix, it leaves the same
pub left-nothing : (v : Votes) (k j p x : ℕ) → NothingBelow v p x
    → slice_below v k j ((x + 1) * 2 ^ (v.members - p)) ≡ slice_below v k j (x * 2 ^ (v.members - p))
unfolding slice_below minimal_below
left-nothing v k j p x nothing = grind (arith, block-prefix, filter-down_skip, next-block)

-- below a winning prefix only the prefix with zeros is left
pub left-won : (v : Votes) (k j p x : ℕ) → IsVotes v → p ≤ v.members → wins_at v p x ≡ true
    → slice_below v k j ((x + 1) * 2 ^ (v.members - p)) ≡ slice_below v k j (x * 2 ^ (v.members - p) + 1)
unfolding slice_below minimal_below
left-won v k j p x game le win =
    let pos : 0 < 2 ^ (v.members - p) = pow_pos (v.members - p) in
    let e : (x + 1) * 2 ^ (v.members - p) ≡ (x * 2 ^ (v.members - p) + 1) + (2 ^ (v.members - p) - 1) = grind (arith, next-block) in
    grind (arith, filter-down_skip, false_from_ne_true, above-not_minimal)

-- c itself, if it is minimal and in the slice
pub left-take : (v : Votes) (k j c : ℕ) → minimal v c ≡ true → c / 2 ^ (v.members - k) ≡ 2 ^ k - 1 - j
    → slice_below v k j (c + 1) ≡ c ∷ slice_below v k j c
unfolding slice_below minimal_below in_slice
left-take v k j c h inside = grind (arith, cond-true, eq-eqb, filter-down_take)

-- when the walk starts, the whole slice is left
pub left-all : (v : Votes) (k j : ℕ) → k ≤ v.members → j < 2 ^ k
    → slice_below v k j ((2 ^ k - 1 - j + 1) * 2 ^ (v.members - k)) ≡ slice v k j
unfolding slice_below minimal_below in_slice slice minimal_coalitions
left-all v k j le below =
    let whole : 2 ^ v.members ≡ 2 ^ k * 2 ^ (v.members - k) = grind (arith, pow-add) in
    let m : (2 ^ k - 1 - j + 1) * 2 ^ (v.members - k) ≤ 2 ^ k * 2 ^ (v.members - k) = grind (arith, mul-le) in
    let e : (2 ^ k - 1 - j + 1) * 2 ^ (v.members - k) + (2 ^ v.members - (2 ^ k - 1 - j + 1) * 2 ^ (v.members - k)) ≡ 2 ^ v.members =
    omega arith in grind (arith, filter-filter_skip, past-block)

-- when it ends, nothing is left
pub left-none : (v : Votes) (k j : ℕ) → slice_below v k j ((2 ^ k - 1 - j) * 2 ^ (v.members - k)) ≡ []
unfolding slice_below minimal_below in_slice
left-none v k j = grind (arith, before-block, filter-filter_none)
