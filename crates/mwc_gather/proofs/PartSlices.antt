-- Deals, one slice at a time.
use Rattle.mwc_gather.proofs.Imports.{ltb, set, get_or, take, ap, arith, ◌∙◌, eq-eqb, ne_eqb, append-nil, take_all, sum_by, ◌≡◌, ℕ, zero}
use Rattle.mwc_gather.proofs.Imports.{suc, ◌+◌, ◌<◌, ◌≤◌, Bool, true, false, cond, List, [], ◌∷◌, ◌++◌, length, map, All, refl, eqb}
use Rattle.mwc_gather.proofs.Imports.{nat_tests, get_or-map-range_with_len, take_more, sum_by-cons, sum_by_push, range_with_len}
use Rattle.mwc_gather.proofs.Imports.{IsStrictlyIncreasing, times_in, slices_from, slices_held_by, slices_by_worker}
use Rattle.std.proofs.{Common.add-one, Common.length-take-le, lemmas.List.FromFn.length-map-range_with_len, lemmas.List.Sums.sum_by-set}
use Rattle.mwc_gather.specs.Inner.Holders.{AscendsFrom}
use Rattle.council_game.proofs.Shared.Ranges.{sum_by-range-more}

cons_if : (b : Bool) (j : ℕ) (x a c : List ℕ) → x ≡ a ++ c → cond b (j ∷ x) x ≡ cond b (j ∷ a) a ++ c
cons_if true j x a c e = ap (λ (w : List ℕ). j ∷ w) e
cons_if false j x a c e = e

-- one more holder
pub slices_held_by-more : (w j : ℕ) (hs : List ℕ) (h : ℕ)
    → slices_from w j (hs ++ h ∷ []) ≡ slices_from w j hs ++ cond (eqb w h) ((j + length hs) ∷ []) []
slices_held_by-more w j [] h = let e : j ≡ j + 0 = omega arith in ap (λ (k : ℕ). cond (eqb w h) (k ∷ []) []) e
slices_held_by-more w j (x ∷ hs) h = grind (arith, slices_held_by-more w (j + 1) hs h, cons_if)

pub slices_held_by-other : (hs : List ℕ) (w h : ℕ) → (w ≡ h → ⊥) → slices_held_by (hs ++ h ∷ []) w ≡ slices_held_by hs w
slices_held_by-other hs w h ne = grind (arith, append-nil, ne_eqb, slices_held_by-more)

others : (hs : List ℕ) (i from k : ℕ)
    → i < from → map (slices_held_by (hs ++ i ∷ [])) (range_with_len from k) ≡ map (slices_held_by hs) (range_with_len from k)
others hs i from zero h = refl
others hs i from (suc k) h = grind (arith, others hs i (from + 1) k (omega arith), slices_held_by-other)

-- worker i, in the row from worker `from` on, is given the next slice
pub assigns_from : (hs : List ℕ) (i from k n : ℕ) → from + n ≡ i → n < k
    → map (slices_held_by (hs ++ i ∷ [])) (range_with_len from k) ≡ set (map (slices_held_by hs) (range_with_len from k)) n
    (slices_held_by hs i ++ length hs ∷ [])
assigns_from hs i from zero n e h = absurd (omega arith)
assigns_from hs i from (suc k) zero e h = grind (arith, others, eq-eqb, slices_held_by-more)
assigns_from hs i from (suc k) (suc n) e h = grind (arith, assigns_from hs i (from + 1) k n (omega arith) (omega arith), slices_held_by-other)

-- what a worker holds ascends
ascends_weaker : (m n : ℕ) (s : List ℕ) → m ≤ n → AscendsFrom n s → AscendsFrom m s
ascends_weaker m n [] l a = tt
ascends_weaker m n (j ∷ s) l a = (omega arith, a.1)

ascends_if : (b : Bool) (j : ℕ) (s : List ℕ) → AscendsFrom (j + 1) s → AscendsFrom j (cond b (j ∷ s) s)
ascends_if true j s a = (omega arith, a)
ascends_if false j s a = ascends_weaker j (j + 1) s (omega arith) a

held_ascends : (w j : ℕ) (hs : List ℕ) → AscendsFrom j (slices_from w j hs)
held_ascends w j [] = tt
held_ascends w j (h ∷ hs) = ascends_if (eqb w h) j (slices_from w (j + 1) hs) (held_ascends w (j + 1) hs)

increases : (n : ℕ) (s : List ℕ) → AscendsFrom n s → IsStrictlyIncreasing s
increases n [] a k l = absurd (omega arith)
increases n (i ∷ []) a k l = absurd (omega arith)
increases n (i ∷ j ∷ s) a zero l = omega arith
increases n (i ∷ j ∷ s) a (suc k) l = grind (arith, increases (i + 1) (j ∷ s) a.1 k (omega arith))

pub held_increases : (w : ℕ) (hs : List ℕ) → IsStrictlyIncreasing (slices_held_by hs w)
held_increases w hs = increases 0 (slices_held_by hs w) (held_ascends w 0 hs)

-- ---- sums
none_held : (f : ℕ → ℕ) (j : ℕ) (ws : List ℕ) → sum_by (sum_by f) (map (λ w. slices_from w j []) ws) ≡ 0
none_held f j [] = refl
none_held f j (w ∷ ws) = omega (arith, sum_by-cons (sum_by f) (slices_from w j []) (map (λ w. slices_from w j []) ws), none_held f j ws)

-- of the first m holders
sum_up_to : (f : ℕ → ℕ) (k : ℕ) (hs : List ℕ) → All (λ h. h < k) hs → (m : ℕ) → m ≤ length hs
    → sum_by (sum_by f) (slices_by_worker (take m hs) k) ≡ sum_by f (range_with_len 0 m)
sum_up_to f k hs a zero l = none_held f 0 (range_with_len 0 k)
sum_up_to f k hs a (suc m) l =
    let h : ℕ = get_or hs m 0 in
    let first : List ℕ = take m hs in
    let below : h < k = a m 0 (omega arith) in
    let more : take (suc m) hs ≡ first ++ h ∷ [] = rw (← add-one) (take_more hs m 0 (omega arith)) in
    let number : length first ≡ m = length-take-le m hs (omega arith) in
    let held : get_or (slices_by_worker first k) h [] ≡ slices_held_by first h = grind (arith, get_or-map-range_with_len) in
    let before = sum_up_to f k hs a m (omega arith) in
    let assigned = assigns_from first h 0 k h (omega arith) below in
    let next = rw add-one at (sum_by-range-more f m) in grind (arith, nat_tests, sum_by_push, sum_by-set, length-map-range_with_len)

-- any sum over the slices of all parts is the sum over the slices
pub part_slices_sum : (f : ℕ → ℕ) (k : ℕ) (hs : List ℕ) → All (λ h. h < k) hs
    → sum_by (sum_by f) (slices_by_worker hs k) ≡ sum_by f (range_with_len 0 (length hs))
part_slices_sum f k hs a = rw (take_all (length hs) hs (omega arith)) at (sum_up_to f k hs a (length hs) (omega arith))

-- the row up to n has each number below n once
range_once : (i n : ℕ) → times_in i (range_with_len 0 n) ≡ cond (ltb i n) 1 0
range_once i zero = grind (arith, nat_tests)
range_once i (suc n) =
    let rest = range_once i n in
    let next = rw add-one at (sum_by-range-more (λ x. cond (eqb x i) 1 0) n) in grind (arith, nat_tests)

-- the parts have each slice once, and no other number
pub each_held_once : (i k : ℕ) (hs : List ℕ) → All (λ h. h < k) hs → sum_by (times_in i) (slices_by_worker hs k) ≡ cond (ltb i (length hs)) 1 0
each_held_once i k hs a = part_slices_sum (λ x. cond (eqb x i) 1 0) k hs a ∙ range_once i (length hs)
