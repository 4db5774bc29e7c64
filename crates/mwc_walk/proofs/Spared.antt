-- The members that each rule can spare, and the prefixes below which nothing is minimal.
use Rattle.mwc_walk.proofs.Imports.{false_from_ne_true, nat_tests, shr-shr, Votes, drop, get_or, refl, sym, both_ways, Bool, ◌∷◌, []}
use Rattle.mwc_walk.proofs.Imports.{le-leb, Cursor, LaneIs, NothingBelow, IsExcess, wins_at, IsNeed, Tried, rule_at, has, without, weight}
use Rattle.mwc_walk.proofs.Imports.{cases_eq, cases_Bool, CursorIs, has-none, lane_at, IsVotes, ◌<◌, ap, false, reaches}
use Rattle.mwc_walk.proofs.Imports.{◌≤◌, true, List, length, ◌∙◌, arith}
use Rattle.mwc_walk.proofs.Imports.{wins, minimal, needs-each-member, Lane, eq-eqb, ExcessIs, weight-le, ◌≡◌, ℕ, ◌+◌, ◌-◌, ◌*◌, ◌/◌, ◌^◌}
use Rattle.std.proofs.lemmas.{Bool.and_parts, Bool.and_from, Nat.and_le_l, Nat.Bits.bit_at_and, List.Sums.AllPass-from_list_all}
use Rattle.std.proofs.Common.{◌&&◌, bit_and, leb-true}
use Rattle.council_game.specs.Votes.{meets_quota}
use Rattle.council_game.proofs.Shared.Digits.{has-kept, has-gone, without-less}
use Rattle.council_game.proofs.Shared.WinningByPlaces.{sum-without, rule-is}
use Rattle.mwc_walk.specs.Inner.Places.{AreExcesses, CanSpare, IsSomeWay, NothingMeets, SetPasses, can_meet, in_set, meets_at}
use Rattle.mwc_walk.specs.Inner.Spared.{NoneSpared}
use Rattle.mwc_walk.proofs.{Shared.One.place-before, Shared.One.in-slice, Steps.enter-short, Steps.lane-here, Steps.sum-here}
use Rattle.mwc_walk.proofs.Rules.{weight-block, weight-parts, wins-prefix, met-at, none-passes, one-passes, passes-some, set-passes}

pub has-and : (n q a b : ℕ) → has n q (bit_and a b) ≡ (has n q a && has n q b)
unfolding has
has-and n q a b = grind (arith, nat_tests, bit_at_and)

-- a place that is in the prefix is in each coalition below it
has-below : (n p x c q : ℕ) → p ≤ n → q < n → c / 2 ^ (n - p) ≡ x → has n q (x * 2 ^ (n - p)) ≡ true → has n q c ≡ true
unfolding has
has-below n p x c q le below prefix in' =
    grind (arith, place-before n p x q le below in', in-slice n (q + 1) p x, shr-shr c (n - p) (p - (q + 1)))

-- ---- rule by rule
-- without a member that each quota of a way is passed by, a coalition wins still
still-wins : (v : Votes) (set : List Bool) (c q : ℕ) → IsVotes v → IsSomeWay v set → q < v.members → has v.members q c ≡ true
    → ((i : ℕ) → i < length v.rules → in_set set i ≡ true
    → (rule_at v.rules i).quota + get_or (rule_at v.rules i).weights q 0 ≤ weight (rule_at v.rules i).weights c)
    → wins v (without v.members q c) ≡ true
unfolding wins
still-wins v set c q game way below in' free =
    set-passes v game (meets_quota (without v.members q c)) way.way set way.there way.same (λ i lt inside.
    le-leb _ _ (omega (arith, free i lt inside, sum-without v.members (rule_at v.rules i) c q _ (rule-is v i game lt) below in' refl)))

-- ---- one place after another
module _ {v : Votes} {set : List Bool} {p x rest : ℕ} {es : List ℕ} (tried : Tried v set p x es rest) where
  pub tried-more : (q : ℕ) → 0 < rest → q < v.members → has v.members q rest ≡ true → (CanSpare v set es q → ⊥)
      → Tried v set p x es (without v.members q rest)
  tried-more q pos below in' kept = grind (arith, both_ways, cases_eq, has-gone, has-kept, without-less)

  pub tried-all : rest ≡ 0 → NoneSpared v set p x es
  tried-all none = λ q below in'. tried.kept q below in' (ap (has v.members q) none ∙ has-none v.members q)

  -- a rule that passes its quota by less than the lightest member weighs spares only who weighs
  -- nothing
  pub tried-weightless : (i : ℕ) (l : Lane) → i < length v.rules → in_set set i ≡ true → p ≤ v.members
      → LaneIs v.members (rule_at v.rules i) l
      → get_or es i 0 < get_or l.lightest (p - 1) 0 → Tried v set p x es (bit_and rest l.weightless)
  tried-weightless i l below inside le is less =
      grind (arith, and_le_l, and_from, and_parts, both_ways, cases_Bool, eq-eqb, has-and, place-before, is.lightest (p - 1))

module _ {v : Votes} {a : Cursor} (is : CursorIs v a) where
  -- ---- what is there and what comes
  -- what a coalition that begins with the prefix weighs by rule i
  there-and-comes : (i c : ℕ) → i < a.rules → c / 2 ^ (v.members - a.place) ≡ a.prefix
      → weight (rule_at v.rules i).weights c ≡ (lane_at a.lanes i).sum + weight (drop a.place (rule_at v.rules i).weights) c
  there-and-comes i c below prefix = grind (arith, weight-parts (lane-here is i below).rule a.place c is.place.to, sum-here is i below)

  module _ (set : List Bool) where
    -- a coalition that meets the rules of the set
    meets : (i c : ℕ) → i < a.rules → in_set set i ≡ true → SetPasses (meets_quota c) v set
        → (rule_at v.rules i).quota ≤ weight (rule_at v.rules i).weights c
    meets i c below inside met = met-at v set c i met (omega (arith, below, is.rules)) inside

    -- what the quota lacks comes
    pub lacks-need : (i e : ℕ) → i < a.rules → in_set set i ≡ true → e ≡ (lane_at a.lanes i).quota - (lane_at a.lanes i).sum
        → IsNeed v set a.place a.prefix i e
    lacks-need i e below inside is-e = λ c prefix met.
        omega (arith, meets i c below inside met, there-and-comes i c below prefix, (lane-here is i below).quota)

    -- the excess over the quota with what comes at the least
    pub least-excess : (i t need : ℕ) → i < a.rules → in_set set i ≡ true → t ≤ (lane_at a.lanes i).sum + need
        → IsNeed v set a.place a.prefix i need → IsExcess v set a.place a.prefix i (t - (lane_at a.lanes i).quota)
    least-excess i t need below inside most comes = λ c prefix met.
        omega (
          arith,
          meets i c below inside met,
          there-and-comes i c below prefix,
          (lane-here is i below).quota,
          comes c prefix met,
        )

    -- what is there beyond the quota is passed by each of these coalitions below
    pub excess-are : (es : List ℕ) → ExcessIs v a.place a.prefix es → AreExcesses v set a.place a.prefix es
    excess-are es is-e = λ i below inside c prefix met.
        let here : i < a.rules = omega (arith, below, is.rules) in
        omega (arith, is-e i below, meets i c here inside met, there-and-comes i c here prefix, sum-here is i here)

    -- if more is needed than can come, none of them is minimal
    pub out-of-reach : (i need : ℕ) → i < a.rules → get_or (lane_at a.lanes i).rest a.place 0 < need → IsNeed v set a.place a.prefix i need
        → NothingMeets v set a.place a.prefix
    out-of-reach i need below more comes = λ c prefix met.
        let most = weight-le (drop a.place (rule_at v.rules i).weights) c in
        absurd (omega (arith, comes c prefix met, most, (lane-here is i below).rest a.place is.place.to))

    -- nor if some rule cannot be met
    pub cannot-meet : (SetPasses (can_meet a.place a.prefix) v set → ⊥) → NothingMeets v set a.place a.prefix
    cannot-meet none = λ c prefix met. absurd (none (λ i lt inside.
        let here : i < a.rules = omega (arith, lt, is.rules) in
        let most = weight-le (drop a.place (rule_at v.rules i).weights) c in
        le-leb _ _ (omega (arith, meets i c here inside met, there-and-comes i c here prefix, sum-here is i here, most))))

    -- ---- who can be spared
    -- a member whom each rule of a way can spare, by what each of these coalitions has beyond the
    -- quotas, is needed in none of them
    pub spared-nothing : (q : ℕ) (es : List ℕ) → IsSomeWay v set → q < v.members → has v.members q (a.prefix * 2 ^ (v.members - a.place)) ≡ true
        → CanSpare v set es q → AreExcesses v set a.place a.prefix es → NothingMeets v set a.place a.prefix
    spared-nothing q es way below in' spare excess c prefix met =
        false_from_ne_true _ (λ min.
        let inside = has-below v.members a.place a.prefix c q is.place.to below prefix in' in
        both_ways _ (((needs-each-member v c).0 min).1 q below inside)
        (still-wins v set c q is.game way below inside (λ i lt in_way.
        omega (arith, spare i lt in_way, excess i lt in_way c prefix met))))

  -- ---- the ways
  -- the sets of the cursor
  abbrev pub set-of : ℕ → List Bool
  set-of k = get_or a.sets k []

  pub some-way : (k : ℕ) → k < a.ways → IsSomeWay v (set-of k)
  some-way k lt = record { way = k; there = omega (arith, lt, is.ways); same = is.sets k (omega (arith, lt, is.ways)) }

  -- the prefix wins, or can still win, by a way; and it loses by all of them
  pub won-by : (k : ℕ) → k < a.ways → SetPasses (meets_at a.place a.prefix) v (set-of k) → wins_at v a.place a.prefix ≡ true
  unfolding wins_at
  won-by k lt = let there : k < length v.ways = omega (arith, lt, is.ways) in set-passes v is.game (meets_at a.place a.prefix) k (set-of k) there (is.sets k there)

  pub reached-by : (k : ℕ) → k < a.ways → SetPasses (can_meet a.place a.prefix) v (set-of k) → reaches v a.place a.prefix ≡ true
  unfolding reaches
  reached-by k lt = let there : k < length v.ways = omega (arith, lt, is.ways) in set-passes v is.game (can_meet a.place a.prefix) k (set-of k) there (is.sets k there)

  pub lost-by-all : ((k : ℕ) → k < a.ways → SetPasses (meets_at a.place a.prefix) v (set-of k) → ⊥) → wins_at v a.place a.prefix ≡ false
  unfolding wins_at
  lost-by-all none = none-passes v is.game (meets_at a.place a.prefix) set-of is.sets (λ k lt. none k (omega (arith, lt, is.ways)))

  -- nothing below is minimal if nothing is that meets the rules of any way
  pub nothing-meets : ((k : ℕ) → k < a.ways → NothingMeets v (set-of k) a.place a.prefix) → NothingBelow v a.place a.prefix
  unfolding wins
  nothing-meets none c prefix = false_from_ne_true _ (λ min.
      let found = passes-some v is.game (meets_quota c) set-of is.sets ((needs-each-member v c).0 min).0 in
      both_ways _ (none found.0 (omega (arith, found.1, is.ways)) c prefix found.2) min)

  pub nothing-one : length v.ways ≡ 1 → NothingMeets v (true ∷ true ∷ true ∷ true ∷ []) a.place a.prefix → NothingBelow v a.place a.prefix
  unfolding wins
  nothing-one one none c prefix = false_from_ne_true _ (λ min.
      let won = sym (one-passes v is.game (meets_quota c) one) ∙ ((needs-each-member v c).0 min).0 in
      both_ways _ (none c prefix (λ i lt _. AllPass-from_list_all (meets_quota c) v.rules won i _ lt)) min)

  -- a set whose rules the prefix meets is met by each coalition below
  pub met-below : (set : List Bool) (c : ℕ) → c / 2 ^ (v.members - a.place) ≡ a.prefix → SetPasses (meets_at a.place a.prefix) v set
      → SetPasses (meets_quota c) v set
  met-below set c prefix met i lt inside =
      let here : i < a.rules = omega (arith, lt, is.rules) in
      le-leb _ _ (omega (arith, leb-true _ _ (met i lt inside), there-and-comes i c here prefix, sum-here is i here))

  -- so if a way that is met can spare a member, nothing below is minimal
  pub spared-won : (set : List Bool) → SetPasses (meets_at a.place a.prefix) v set → NothingMeets v set a.place a.prefix
      → NothingBelow v a.place a.prefix
  spared-won set met none c prefix = none c prefix (met-below set c prefix met)

  -- a winning prefix is minimal if no way that it meets can spare a member
  module _ (es : List ℕ) (excess : ExcessIs v a.place a.prefix es) (won : wins_at v a.place a.prefix ≡ true) where
    abbrev x : ℕ
    x = a.prefix * 2 ^ (v.members - a.place)

    kept-by : (set : List Bool) (q : ℕ) → NoneSpared v set a.place a.prefix es → q < v.members → has v.members q x ≡ true
        → SetPasses (meets_quota (without v.members q x)) v set → ⊥
    kept-by set q kept below in' met = kept q below in' (λ i lt inside.
        let rule = rule-is v i is.game lt in
        let quota = met-at v set (without v.members q x) i met lt inside in
        let less = sum-without v.members (rule_at v.rules i) x q _ rule below in' (sym (weight-block rule a.place a.prefix is.place.to)) in
        omega (arith, quota, rule.some, less, excess i lt))

    -- who meets a way without a member meets it with the member
    met-here : (set : List Bool) (q : ℕ) → q < v.members → has v.members q x ≡ true
        → SetPasses (meets_quota (without v.members q x)) v set → SetPasses (meets_at a.place a.prefix) v set
    met-here set q below in' met i lt inside =
        let rule = rule-is v i is.game lt in
        let quota = met-at v set (without v.members q x) i met lt inside in
        let less = sum-without v.members (rule_at v.rules i) x q _ rule below in' (sym (weight-block rule a.place a.prefix is.place.to)) in
        le-leb _ _ (omega (arith, quota, less))

    pub kept-minimal : ((k : ℕ) → k < a.ways → SetPasses (meets_at a.place a.prefix) v (set-of k) → NoneSpared v (set-of k) a.place a.prefix es)
        → minimal v x ≡ true
    unfolding wins
    kept-minimal kept =
        (needs-each-member v x).1 (
          wins-prefix v is.game a.place a.prefix is.place.to ∙ won,
          λ q below in'. none-passes v is.game (meets_quota (without v.members q x)) set-of is.sets (λ k lt met.
              kept-by (set-of k) q (kept k (omega (arith, lt, is.ways)) (met-here (set-of k) q below in' met)) below in' met),
        )

    pub kept-minimal_one : length v.ways ≡ 1 → NoneSpared v (true ∷ true ∷ true ∷ true ∷ []) a.place a.prefix es → minimal v x ≡ true
    unfolding wins
    kept-minimal_one one kept =
        (needs-each-member v x).1 (
          wins-prefix v is.game a.place a.prefix is.place.to ∙ won,
          λ q below in'. false_from_ne_true _ (λ still.
              let all = sym (one-passes v is.game (meets_quota (without v.members q x)) one) ∙ still in
              kept-by (true ∷ true ∷ true ∷ true ∷ []) q kept below in'
              (λ i lt _. AllPass-from_list_all (meets_quota (without v.members q x)) v.rules all i _ lt)),
        )

  -- all members of the prefix are still to be tried
  pub tried-first : (set : List Bool) (es : List ℕ) (m : ℕ) → m ≡ a.prefix * 2 ^ (a.members - a.place) → Tried v set a.place a.prefix es m
  tried-first set es m same = grind (arith, both_ways, enter-short)
