-- The moves of a cursor, and where it starts.
use Rattle.mwc_walk.proofs.Imports.{slice_below, reaches, wins_at, NothingBelow, CursorIs, IsVotes, minimal, false_from_ne_true, cond-true}
use Rattle.mwc_walk.proofs.Imports.{cond-false, cond_both, list_all, RuleView, Votes, ◌≡◌, ℕ, suc, ◌+◌, ◌-◌, ◌*◌, ◌/◌, ◌%◌, ◌^◌, ◌<◌, ◌≤◌}
use Rattle.mwc_walk.proofs.Imports.{min, true, false, List, ◌++◌, map, length, take, get_or, refl, Lane, Cursor, NotYet, Found, End, lane_with}
use Rattle.mwc_walk.proofs.Imports.{lane_without, IsPlace, lane_at, LanesStand, ap, ◌∙◌, arith, common_steps, shr-shr, pow_pos, pow_mono}
use Rattle.mwc_walk.proofs.Imports.{cases_lt, both_ways, sum_by-take-drop, weight, weight-le, rule_at, LaneIs, leb, get_or-take}
use Rattle.mwc_walk.proofs.Imports.{get_or_default, sum, sym, drop, length-take, nat_tests, zero, w64, trailing_zeros, steps_left, []}
use Rattle.std.proofs.lemmas.Nat.Bits.{bit_at-trailing_zeros, bit_at-zero}
use Rattle.std.specs.Int.Count.{trailing_of_zero}
use Rattle.mwc_walk.specs.Inner.{Cursor.FitVisits, Cursor.Steps, Cursor.Starts, Cursor.rest_of_slice, Lanes.no_lane, Lanes.lane_reaches, Lanes.lane_wins, Places.LanesAre}
use Rattle.std.proofs.Common.{All, Bool, cond, ltb, pow-suc, pow-add, lt-ltb, le-ltb, mul-le-mul}
use Rattle.std.proofs.lemmas.Nat.{shl_below, shl_whole}
use Rattle.mwc_walk.proofs.Rest.{dead-nothing, left-nothing, left-won, left-take, left-none, left-all}
use Rattle.mwc_walk.proofs.Shared.One.{one-minimal, won-odd, empty-loses, slice-short, in-slice}
use Rattle.mwc_walk.proofs.Visits.{fit-up, fit-out, fit-in, fit-pass, fit-start}
use Rattle.mwc_walk.proofs.Rules.{wins-more, reaches-in, full-reach, weight-step, weight-over, weight-block, rest-step, lanes-pass, one-passes}
use Rattle.mwc_walk.specs.Inner.Places.{IsWay, can_meet, meets_at}

-- one digit more
pub short-step : (p q : ℕ) → q ≡ p + 1 → 2 ^ q ≡ 2 ^ p * 2
short-step p q next = ap (λ (i : ℕ). 2 ^ i) (let d : q ≡ suc p = omega arith in d) ∙ pow-suc 2 p

-- a block is two halves
halves : (n p q x y : ℕ) → p < n → q ≡ p + 1 → y ≡ 2 * x → y * 2 ^ (n - q) ≡ x * 2 ^ (n - p)
halves n p q x y below next twice = rw (short-step (n - q) (n - p) (omega arith), twice) (omega arith)

-- the number of the first k places of n, with zeros after it
pub fixed-mask : (n k x : ℕ) → k ≤ n → n ≤ 40 → x < 2 ^ k → (x * 2 ^ (n - k) % 2 ^ 64 ≡ x * 2 ^ (n - k)) × (x * 2 ^ (n - k) < 2 ^ n)
fixed-mask n k x le few short =
    (shl_whole x k (n - k) 64 short (omega arith), rw (let e : k + (n - k) ≡ n = omega arith in e) at (shl_below x k (n - k) short))

-- what the mask of a prefix rests on
pub ruleset masks = (common_steps, fixed-mask, pow_mono)

-- one digit less
half-shift : (x y k p q : ℕ) → q ≡ p + 1 → x ≡ y / 2 → k ≤ p → x / 2 ^ (p - k) ≡ y / 2 ^ (q - k)
half-shift x y k p q next half le = rw (← half, (let e : 1 + (p - k) ≡ q - k = omega arith in e)) at (shr-shr y 1 (p - k))

-- ---- the places of a slice
-- the place before, which does not win either
place-up : (v : Votes) (k j p q x y : ℕ) → IsVotes v → q ≡ p + 1 → x ≡ y / 2 → k ≤ p → IsPlace v k j q y → IsPlace v k j p x
place-up v k j p q x y game next half le is = grind (arith, half-shift, short-step, both_ways, false_from_ne_true, wins-more)

-- the place after
place-down : (v : Votes) (k j p q x y : ℕ) → q ≡ p + 1 → x ≡ y / 2 → p < v.members → wins_at v p x ≡ false → IsPlace v k j p x
    → IsPlace v k j q y
place-down v k j p q x y next half below lost is = grind (arith, half-shift, short-step)

-- ---- moves
-- what a call on the first lanes leaves in the array
pub record IsPart (f : Lane → Lane) (old new : List Lane) (k : ℕ) : Type 0 where
  pub room : k ≤ length new
  pub each : (i : ℕ) → i < k → lane_at new i ≡ f (lane_at old i)

pub is-part : (f : Lane → Lane) (new q old : List Lane) (k : ℕ) → new ≡ map f (take k old) → k ≤ length old → IsPart f old (new ++ q) k
is-part f new q old k e le = grind (arith, common_steps)

-- the weight of a place, by its lane
pub lane-weight : {n : ℕ} {r : RuleView} {l : Lane} → LaneIs n r l → (q : ℕ) → q < n → get_or l.weights q 0 ≡ get_or r.weights q 0
lane-weight {n} {r} {l} is q below = sym (get_or-take n l.weights q 0 below) ∙ ap (λ (ws : List ℕ). get_or ws q 0) is.weights

-- the lane with another sum
lane-moved : {n : ℕ} {r : RuleView} {l : Lane} (s : ℕ) → LaneIs n r l → LaneIs n r (record l { sum = s })
lane-moved s is = grind arith

module _ (v : Votes) (p q x y : ℕ) (below : p < v.members) (next : q ≡ p + 1) where
  -- place p is taken in
  pub lanes-in : (old new : List Lane) (k : ℕ) → y ≡ 2 * x + 1 → k ≡ length v.rules → IsPart (lane_with p) old new k → LanesAre v p x old
      → LanesAre v q y new
  unfolding LanesAre
  lanes-in old new k more all part are = (
    λ i lt. rw (part.each i (omega (arith, lt, all))) (lane-moved _ (are.0 i lt)),
    λ i lt. rw (part.each i (omega (arith, lt, all))) (let own = are.0 i lt in
        omega (arith, weight-step own.rule p q x y 1 below next more (omega arith), are.1 i lt, lane-weight own p below)),
  )

  -- it comes out again
  pub lanes-out : (old new : List Lane) (k : ℕ) → x ≡ y + 1 → y % 2 ≡ 0 → k ≡ length v.rules → IsPart (lane_without p) old new k
      → LanesAre v q x old → LanesAre v q y new
  unfolding LanesAre
  lanes-out old new k less even all part are = (
    λ i lt. rw (part.each i (omega (arith, lt, all))) (lane-moved _ (are.0 i lt)),
    λ i lt. rw (part.each i (omega (arith, lt, all))) (let own = are.0 i lt in omega (
      arith,
      weight-step own.rule p q (y / 2) x 1 below next (omega arith) (omega arith),
      weight-over own.rule p q (y / 2) y below next (omega arith),
      are.1 i lt,
      lane-weight own p below,
    )),
  )

  -- back to the place before, which is not in
  pub lanes-up : (ls : List Lane) → y ≡ 2 * x → LanesAre v q y ls → LanesAre v p x ls
  unfolding LanesAre
  lanes-up ls twice are = (are.0, λ i lt. are.1 i lt ∙ weight-over (are.0 i lt).rule p q x y below next twice)

-- a descent takes at most a visit for each place after the fixed ones
open-most : (v : Votes) (p x most : ℕ) → cond (reaches v p x) most 0 ≤ most
open-most v p x most = cond_both (reaches v p x) most 0 (λ i. i ≤ most) (λ _. omega arith) (λ _. omega arith)

module _ {v : Votes} {a : Cursor} (is : CursorIs v a) where
  -- ---- the lanes at the place
  pub lane-here : (i : ℕ) → i < a.rules → LaneIs v.members (rule_at v.rules i) (lane_at a.lanes i)
  unfolding LanesAre
  lane-here i below = is.lanes.0 i (omega (arith, below, is.rules))

  pub sum-here : (i : ℕ) → i < a.rules → (lane_at a.lanes i).sum ≡ weight (take a.place (rule_at v.rules i).weights) a.prefix
  unfolding LanesAre
  sum-here i below = is.lanes.1 i (omega (arith, below, is.rules))

  -- ---- coming back, if the last place is not a fixed one
  module _ (stale : a.fresh ≡ false) (more : a.bits < a.place) where
    -- back to the place before, which is not in
    back-up : a.prefix % 2 ≡ 0 → Steps v a NotYet (record a { prefix = a.prefix / 2; place = a.place - 1 })
    back-up even =
        let place = place-up v a.bits a.number (a.place - 1) a.place (a.prefix / 2) a.prefix is.game (omega arith) refl
        (omega arith) is.place in
        let fit = fit-up _ _ _ _ _ _ _ _ _ (a.place - 1) stale (sym (halves v.members (a.place - 1) a.place (a.prefix / 2) a.prefix (omega (arith, more, is.place.to)) (omega (arith, more)) (omega (arith, even)))) is.fit in
        grind (arith, cond-false, halves, lanes-up v (a.place - 1) a.place (a.prefix / 2) a.prefix)

    -- the last member is left out
    module _ (odd : a.prefix % 2 ≡ 1) {k : ℕ} (all : k ≡ length v.rules) where
      back-out : (ls : List Lane) → IsPart (lane_without (a.place - 1)) a.lanes ls k
          → Steps v a NotYet (record a { lanes = ls; prefix = a.prefix - 1; fresh = true })
      back-out ls part =
          let up = place-up v a.bits a.number (a.place - 1) a.place (a.prefix / 2) a.prefix is.game (omega arith) refl
          (omega arith) is.place in
          let place = place-down v a.bits a.number (a.place - 1) a.place (a.prefix / 2) (a.prefix - 1) (omega arith) (omega arith)
          (omega (arith, is.place.to)) (is.place.passed more) up in
          let lanes = lanes-out v (a.place - 1) a.place a.prefix (a.prefix - 1) (omega (arith, is.place.to)) (omega arith)
          a.lanes ls k (omega arith) (omega arith) all part is.lanes in
          let fit = fit-out _ _ _ _ _ _ _ stale (omega (arith, odd)) is.fit in
          grind (arith, cond-false)

      out-fits : All (λ l. get_or l.weights (a.place - 1) 0 ≤ l.sum) (take k a.lanes)
      out-fits = λ i d lt.
          let first : i < k = omega (arith, lt, length-take k a.lanes) in
          let below : i < a.rules = omega (arith, first, all, is.rules) in
          let own = lane-here i below in
          let step = weight-step own.rule (a.place - 1) a.place (a.prefix / 2) a.prefix 1 (omega (arith, is.place.to))
          (omega arith) (omega arith) (omega arith) in
          rw (get_or-take k a.lanes i d first, get_or_default a.lanes i d no_lane (omega (arith, below, is.room)))
          (omega (arith, step, sum-here i below, lane-weight own (a.place - 1) (omega (arith, is.place.to))))

  -- at the fixed places nothing is left
  none-left : a.fresh ≡ false → a.place ≡ a.bits → rest_of_slice v a ≡ []
  none-left stale done = grind (arith, cond-false, left-none v a.bits a.number)

  -- ---- a fresh place
  -- what a test of a lane says of its rule
  pub lane-reaches : (i : ℕ) → i < a.rules → lane_reaches a.place (lane_at a.lanes i) ≡ can_meet a.place a.prefix (rule_at v.rules i)
  lane-reaches i below =
      let own = lane-here i below in
      let here = sum-here i below in
      rw (own.quota, here, own.rest a.place is.place.to) (grind (arith, nat_tests))

  pub lane-wins : (i : ℕ) → i < a.rules → lane_wins (lane_at a.lanes i) ≡ meets_at a.place a.prefix (rule_at v.rules i)
  lane-wins i below = let own = lane-here i below in rw (own.quota, sum-here i below) refl

  -- what the tests of all lanes say of a game of one way
  module _ {k : ℕ} (all : k ≡ length v.rules) (one : length v.ways ≡ 1) where
    pub reach-is : list_all (lane_reaches a.place) (take k a.lanes) ≡ reaches v a.place a.prefix
    unfolding reaches
    reach-is =
        rw (← all) at (lanes-pass (can_meet a.place a.prefix) (lane_reaches a.place) v.rules a.lanes (omega (arith, is.rules, is.room))
        (λ i lt. lane-reaches i (omega (arith, lt, is.rules)))) ∙ sym (one-passes v is.game (can_meet a.place a.prefix) one)

    pub win-is : list_all lane_wins (take k a.lanes) ≡ wins_at v a.place a.prefix
    unfolding wins_at
    win-is =
        rw (← all) at (lanes-pass (meets_at a.place a.prefix) lane_wins v.rules a.lanes (omega (arith, is.rules, is.room))
        (λ i lt. lane-wins i (omega (arith, lt, is.rules)))) ∙ sym (one-passes v is.game (meets_at a.place a.prefix) one)

  module _ (fresh : a.fresh ≡ true) where
    -- a prefix is passed by, if nothing is left below it and no visit is owed
    pass-by : slice_below v a.bits a.number (a.prefix * 2 ^ (v.members - a.place)) ≡ slice_below v a.bits a.number
        ((a.prefix + 1) * 2 ^ (v.members - a.place))
        → (length v.rules ≡ 1 → cond (reaches v a.place a.prefix) (a.place - a.bits) 0 ≡ 0)
        → Steps v a NotYet (record a { fresh = false })
    pass-by same none =
        let fit = fit-pass _ _ _ _ _ _ _ a.place fresh (pow_pos (v.members - a.place)) is.place.to is.fit in grind (arith, cond-true, cond-false, pow_pos)

    -- a prefix that cannot reach some quota is passed by
    pub enter-dead : reaches v a.place a.prefix ≡ false → Steps v a NotYet (record a { fresh = false })
    enter-dead dead = grind (arith, cond-false, dead-nothing, left-nothing, pass-by)

    -- so is one with nothing below it: with one rule, at the fixed places
    pub enter-spare : NothingBelow v a.place a.prefix → (length v.rules ≡ 1 → a.place ≡ a.bits) → Steps v a NotYet (record a { fresh = false })
    enter-spare nothing fixed = grind (arith, left-nothing, open-most, pass-by)

  -- a prefix that reaches and does not win has a place after it
  module _ (can : reaches v a.place a.prefix ≡ true) (lost : wins_at v a.place a.prefix ≡ false) where
    pub in-room : a.place < v.members
    in-room = grind (arith, both_ways, full-reach)

    module _ {k : ℕ} (all : k ≡ length v.rules) where
      pub in-fits : All (λ l. l.sum + get_or l.weights a.place 0 < 2 ^ 64) (take k a.lanes)
      in-fits = λ i d lt.
          let first : i < k = omega (arith, lt, length-take k a.lanes) in
          let below : i < a.rules = omega (arith, first, all, is.rules) in
          let own = lane-here i below in
          let cut = sum_by-take-drop (λ (y : ℕ). y) (rule_at v.rules i).weights a.place in
          rw (get_or-take k a.lanes i d first, get_or_default a.lanes i d no_lane (omega (arith, below, is.room))) (omega (
            arith,
            cut,
            rest-step own.rule a.place in-room,
            weight-le (take a.place (rule_at v.rules i).weights) a.prefix,
            own.rule.light,
            sum-here i below,
            lane-weight own a.place in-room,
          ))

      -- the next member is taken in
      pub enter-in : a.fresh ≡ true → (ls : List Lane) (t : ℕ) → t ≡ min (a.visits + 1) (2 ^ 64 - 1) → a.visits < 2 ^ 64
          → IsPart (lane_with a.place) a.lanes ls k
          → Steps v a NotYet (record a { lanes = ls; prefix = 2 * a.prefix + 1; place = a.place + 1; visits = t })
      enter-in fresh ls t counted holds part =
          let place = place-down v a.bits a.number a.place (a.place + 1) a.prefix (2 * a.prefix + 1) refl (omega arith)
          in-room lost is.place in
          let lanes = lanes-in v a.place (a.place + 1) a.prefix (2 * a.prefix + 1) in-room refl a.lanes ls k
          refl all part is.lanes in
          let fit = fit-in _ _ _ _ _ _ _ _ _ _ t fresh (halves v.members a.place (a.place + 1) (a.prefix + 1) (2 * a.prefix + 1 + 1) in-room refl (omega arith)) refl (omega (arith, counted)) is.fit in
          grind (arith, cond-true, reaches-in, slice-short, halves)

  -- the number of a prefix with zeros after it
  pub enter-short : a.prefix * 2 ^ (v.members - a.place) < 2 ^ v.members
  enter-short = (fixed-mask v.members a.place a.prefix is.place.to is.game.few is.place.short).1

  -- ---- a winning prefix
  module _ (won : wins_at v a.place a.prefix ≡ true) where
    -- past the fixed places it has its last place in
    pub last-in : a.bits < a.place → a.prefix % 2 ≡ 1
    last-in lt = won-odd v is.game a.place a.prefix (omega arith) is.place.to won (is.place.passed lt)

    -- and with one rule it is minimal there
    pub one-is : a.bits < a.place → length v.rules ≡ 1 → minimal v (a.prefix * 2 ^ (v.members - a.place)) ≡ true
    one-is lt one = one-minimal v is.game one a.place a.prefix (omega arith) is.place.to (is.place.passed lt) won

    -- there was a visit for it
    won-visited : 1 ≤ cond (ltb a.bits a.place) (a.prefix % 2) a.bits
    won-visited = grind (arith, cond-true, lt-ltb, last-in, cond-false, le-ltb, both_ways, empty-loses, cases_lt)

    -- a minimal one is given
    pub enter-give : a.fresh ≡ true → (m : ℕ) → m ≡ a.prefix * 2 ^ (a.members - a.place)
        → minimal v (a.prefix * 2 ^ (v.members - a.place)) ≡ true → Steps v a (Found m) (record a { fresh = false })
    enter-give fresh m found min =
        let fit = fit-pass _ _ _ _ _ _ _ a.place fresh (pow_pos (v.members - a.place)) is.place.to is.fit in
        rw (found, is.members) (grind (arith, cond-true, cond-false, in-slice, left-take, open-most, left-won, won-visited))

-- ---- back to the last member that is in
-- the cursor is some places further up, and the places that it left are not in
record GoesUp (v : Votes) (a b : Cursor) : Type 0 where
  is : CursorIs v b
  same : rest_of_slice v b ≡ rest_of_slice v a
  falls : steps_left v b ≤ steps_left v a

module _ {v : Votes} {a : Cursor} (is : CursorIs v a) (stale : a.fresh ≡ false) where
  short-prefix : a.prefix < 2 ^ 64
  short-prefix = let up : 2 ^ a.place ≤ 2 ^ 40 = pow_mono {j = 40} (omega (arith, is.place.to, is.game.few)) in
      omega (arith, up, is.place.short)

  out-after : (x i : ℕ) → x < 2 ^ 64 → i < trailing_zeros w64 x → x / 2 ^ i % 2 ≡ 0
  out-after zero i short lt = bit_at-zero i
  out-after (suc x) i short lt = (bit_at-trailing_zeros w64 (suc x) (omega arith) short).2 i lt

  last-digit : (x : ℕ) → x < 2 ^ 64 → trailing_zeros w64 x < 64 → x / 2 ^ trailing_zeros w64 x % 2 ≡ 1
  last-digit zero short lt = absurd (omega (arith, lt, trailing_of_zero 64))
  last-digit (suc x) short lt = (bit_at-trailing_zeros w64 (suc x) (omega arith) short).1

  up : (t x p : ℕ) → p + t ≡ a.place → a.bits ≤ p → t ≤ trailing_zeros w64 a.prefix → x ≡ a.prefix / 2 ^ t
      → GoesUp v a (record a { prefix = x; place = p })
  up zero x p ep low le ex =
      rw ((let e : x ≡ a.prefix = omega (arith, ex) in e), (let e : p ≡ a.place = omega arith in e))
      (record { is = is; same = refl; falls = omega arith })
  up (suc t) x p ep low le ex =
      let before = up t (a.prefix / 2 ^ t) (p + 1) (omega arith) (omega arith) (omega arith) refl in
      let step = back-up before.is stale (omega arith) (out-after a.prefix t short-prefix (omega arith)) in
      let half : a.prefix / 2 ^ t / 2 ≡ x = shr-shr a.prefix t 1 ∙ ap (λ (i : ℕ). a.prefix / 2 ^ i) (let e : t + 1 ≡ suc t = omega arith in e) ∙ sym ex in
      let back : p + 1 - 1 ≡ p = omega arith in
      let on : Steps v _ NotYet (record a { prefix = x; place = p }) = rw (half, back) at step in
      record { is = on.follows.is; same = on.same ∙ before.same; falls = omega (arith, on.falls, before.falls) }

  -- nothing is left, if the places that are not fixed are not in
  pub back-end : a.place - trailing_zeros w64 a.prefix ≤ a.bits → Steps v a End a
  back-end few =
      let top = up (a.place - a.bits) (a.prefix / 2 ^ (a.place - a.bits)) a.bits (omega (arith, is.place.from)) (omega arith) (omega arith) refl in
      let none = sym top.same ∙ none-left top.is stale refl in
      record {
        follows = record { is = is; bits = refl; number = refl; counted = omega arith };
        none = none;
        none_after = none;
        stale = stale;
      }

  -- the last member is left out
  module _ (x p : ℕ) (low : a.bits < p) (ep : p ≡ a.place - trailing_zeros w64 a.prefix) (ex : x ≡ a.prefix / 2 ^ trailing_zeros w64 a.prefix)
      {k : ℕ} (all : k ≡ length v.rules) where
    here : GoesUp v a (record a { prefix = x; place = p })
    here = up (trailing_zeros w64 a.prefix) x p (omega arith) (omega arith) (omega arith) ex

    pub odd : x % 2 ≡ 1
    odd = rw ex (last-digit a.prefix short-prefix (omega (arith, is.place.to, is.game.few)))

    pub back-fits : All (λ l. get_or l.weights (p - 1) 0 ≤ l.sum) (take k a.lanes)
    back-fits = out-fits here.is stale low odd all

    pub back-to : (ls : List Lane) → IsPart (lane_without (p - 1)) a.lanes ls k
        → Steps v a NotYet (record a { lanes = ls; prefix = x - 1; place = p; fresh = true })
    back-to ls part =
        let on = back-out here.is stale low odd all ls part in
        record { follows = record { is = on.follows.is; bits = refl; number = refl; counted = omega arith }; same = on.same ∙ here.same; falls = omega (arith, on.falls, here.falls) }

-- the lanes, when the walk starts
pub lanes-first : (v : Votes) (k x m : ℕ) (ls : List Lane) → k ≤ v.members → m ≡ x * 2 ^ (v.members - k) → LanesStand v ls
    → ((i : ℕ) → i < length v.rules → (lane_at ls i).sum ≡ weight (rule_at v.rules i).weights m) → LanesAre v k x ls
unfolding LanesAre
lanes-first v k x m ls le mask own sums = (own, λ i lt. sums i lt ∙ rw mask (weight-block (own i lt).rule k x le))

pub starts : (v : Votes) (k j x m n w fixed : ℕ) (ls : List Lane) (sets : List (List Bool)) → w ≡ length v.ways
    → ((i : ℕ) → i < length v.ways → IsWay v i (get_or sets i [])) → IsVotes v → k ≤ v.members → j < 2 ^ k → n ≡ v.members
    → m ≡ length v.rules → m ≤ length ls → fixed ≡ (2 ^ k - 1 - j) * 2 ^ (v.members - k) → LanesStand v ls
    → ((i : ℕ) → i < length v.rules → (lane_at ls i).sum ≡ weight (rule_at v.rules i).weights fixed) → x ≡ 2 ^ k - 1 - j
    → Starts v k j
    (record { lanes = ls; rules = m; sets = sets; ways = w; members = n; bits = k; number = j; prefix = x; place = k; fresh = true; visits = k })
starts v k j x m n w fixed ls sets ways are game le below members rules room mask own sums prefix =
    let whole : 2 ^ k * 2 ^ (v.members - k) ≡ 2 ^ v.members = sym (pow-add 2 k (v.members - k)) ∙ ap (λ (i : ℕ). 2 ^ i) (let e : k + (v.members - k) ≡ v.members = omega (arith, le) in e) in
    let within : (x + 1) * 2 ^ (v.members - k) ≤ 2 ^ k * 2 ^ (v.members - k) = mul-le-mul (omega (arith, prefix, below)) (omega arith) in
    let fit : FitVisits v.members k k true x (2 ^ (v.members - k)) k = fit-start _ _ _ _ (omega (arith, within, whole)) in
    grind (arith, cond-false, le-ltb, left-all, pow_pos, lanes-first v k x fixed ls le (rw prefix mask) own sums)
