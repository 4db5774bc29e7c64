-- What a rule's places weigh at a prefix x of p places, and the lanes of the walk, which stand for
-- the rules there.
use Rattle.std.proofs.lemmas.Bool.Decides.{nat_tests}
use Rattle.mwc_walk.proofs.Imports.{weight-le, reaches, wins_at, Lane, length-drop, Bool, true, List, [], ◌∷◌, refl, ℕ, ◌+◌, ◌-◌, ◌*◌, ◌/◌}
use Rattle.mwc_walk.proofs.Imports.{drop_all, RuleView, leb, sum_by-take-drop, has-none, lane_at, ◌≡◌, weight, wins, rule_at, ◌%◌, false}
use Rattle.mwc_walk.proofs.Imports.{ap, get_or, sum, arith, zero, suc, length, sym, ◌∙◌, list_all, le-leb, common_steps, Votes, IsVotes}
use Rattle.mwc_walk.proofs.Imports.{◌^◌, ◌<◌, ◌≤◌, take, drop, IsRule, list_all-from_AllPass, cases_eq, cases_lt, inl, inr, get_or-set_at}
use Rattle.mwc_walk.proofs.Imports.{get_or-set_other, false_from_ne_true, list_any}
use Rattle.mwc_walk.specs.Inner.Places.{IsSomeWay, IsWay, SetPasses, can_meet, in_set, meets_at}
use Rattle.council_game.specs.{Votes.meets_quota, Ways.are_ways, Ways.has_rule}
use Rattle.std.proofs.lemmas.List.{Sums.sum_by-drop_more, Folds.list_any_at, get_or_past}
use Rattle.std.proofs.Common.{leb-true, div-add-mod', set, ◌≢◌}
use Rattle.council_game.proofs.Shared.Weights.{weight-at, weight-more, weight-prefix, weight-skip}
use Rattle.council_game.proofs.Shared.{Lists.all-rules, WinningByPlaces.rule-is}
use Rattle.council_game.proofs.Shared.Ways.{each-passes, has-own, one-rule-passes, one-way-passes, only-way, some-passes, way-is, way-rule, ways-more}

-- what holds of the elements of a list at their places, with one of them set anew
pub set-keeps : {A : Type 0} (P : ℕ → A → Type 0) (xs : List A) (k p : ℕ) (x d : A) → k < length xs → P k x
    → (p ≢ k → P p (get_or xs p d)) → P p (get_or (set xs k x) p d)
set-keeps P xs k p x d below here rest = grind (arith, nat_tests, cases_eq, get_or-set_at, get_or-set_other)

-- ---- tests of the rules of a game
-- what is past the rules asks for nothing
no-rule : (v : Votes) (i : ℕ) → length v.rules ≤ i → rule_at v.rules i ≡ record { quota = 0; weights = [] }
no-rule v i past = get_or_past v.rules i (record { quota = 0; weights = [] }) past

module _ (v : Votes) (game : IsVotes v) (p q : RuleView → Bool) where
  -- some way passes a test that its rules pass
  pub rules-more : ((r : RuleView) → IsRule v.members r → p r ≡ true → q r ≡ true) → q (record { quota = 0; weights = [] }) ≡ true
      → list_any (list_all (λ i. p (rule_at v.rules i))) v.ways ≡ true → list_any (list_all (λ i. q (rule_at v.rules i))) v.ways ≡ true
  rules-more more none won =
      ways-more (λ i. p (rule_at v.rules i)) (λ i. q (rule_at v.rules i)) (λ i met. elim (cases_lt i (length v.rules)) [
        | inl lt ↦ more (rule_at v.rules i) (rule-is v i game lt) met
        | inr past ↦ ap q (no-rule v i past) ∙ none
      ]) v.ways won

  pub rules-same : ((r : RuleView) → IsRule v.members r → p r ≡ q r)
      → p (record { quota = 0; weights = [] }) ≡ q (record { quota = 0; weights = [] })
      → list_any (list_all (λ i. p (rule_at v.rules i))) v.ways ≡ list_any (list_all (λ i. q (rule_at v.rules i))) v.ways
  rules-same same none =
      let each : (i : ℕ) → p (rule_at v.rules i) ≡ q (rule_at v.rules i) = λ i. elim (cases_lt i (length v.rules)) [
        | inl lt ↦ same (rule_at v.rules i) (rule-is v i game lt)
        | inr past ↦ ap p (no-rule v i past) ∙ none ∙ sym (ap q (no-rule v i past))
      ] in
      λ k. list_any (list_all (λ i. each i k)) v.ways

-- ---- sets of rules
module _ (v : Votes) (game : IsVotes v) (test : RuleView → Bool) where
  -- a way passes if its set does
  pub set-passes : (k : ℕ) (set : List Bool) → k < length v.ways → IsWay v k set → SetPasses test v set
      → list_any (list_all (λ i. test (rule_at v.rules i))) v.ways ≡ true
  set-passes k set lt is passes =
      let way : List ℕ = get_or v.ways k [] in
      let rule = way-rule (length v.rules) way (way-is (length v.rules) v.ways k [] game.ways lt) in
      list_any_at (list_all (λ i. test (rule_at v.rules i))) v.ways k [] lt
      (list_all-from_AllPass (λ i. test (rule_at v.rules i)) way (λ j d below.
      let under = rule.1 j d below in passes (get_or way j d) under (is (get_or way j d) under ∙ has-own way j d below)))

  -- and its set passes if the way does
  pub passes-set : (k : ℕ) (set : List Bool) → IsWay v k set → list_all (λ i. test (rule_at v.rules i)) (get_or v.ways k []) ≡ true
      → SetPasses test v set
  passes-set k set is all i lt inside = each-passes (λ i. test (rule_at v.rules i)) (get_or v.ways k []) i all (sym (is i lt) ∙ inside)

  -- some way passes, and so does its set
  pub passes-some : (sets : ℕ → List Bool) → ((k : ℕ) → k < length v.ways → IsWay v k (sets k))
      → list_any (list_all (λ i. test (rule_at v.rules i))) v.ways ≡ true → (k : ℕ) × (k < length v.ways) × SetPasses test v (sets k)
  passes-some sets are any =
      let found = some-passes (list_all (λ i. test (rule_at v.rules i))) v.ways [] any in
      (found.0, found.1, passes-set found.0 (sets found.0) (are found.0 found.1) found.2)

  pub none-passes : (sets : ℕ → List Bool) → ((k : ℕ) → k < length v.ways → IsWay v k (sets k))
      → ((k : ℕ) → k < length v.ways → SetPasses test v (sets k) → ⊥) → list_any (list_all (λ i. test (rule_at v.rules i))) v.ways ≡ false
  none-passes sets are none = false_from_ne_true _ (λ any. let found = passes-some sets are any in none found.0 found.1 found.2)

  -- a game of one way
  pub one-passes : length v.ways ≡ 1 → list_any (list_all (λ i. test (rule_at v.rules i))) v.ways ≡ list_all test v.rules
  one-passes one =
      one-way-passes (length v.rules) v.ways (λ i. test (rule_at v.rules i)) game.ways one
      ∙ all-rules test (λ i. test (rule_at v.rules i)) v.rules (λ i lt. refl)

  -- a game of one rule
  pub rule-passes : length v.rules ≡ 1 → list_any (list_all (λ i. test (rule_at v.rules i))) v.ways ≡ test (rule_at v.rules 0)
  rule-passes one = one-rule-passes v.ways (λ i. test (rule_at v.rules i)) (rw one at game.ways)

-- one rule more of a set passes
pub set-more : (test : RuleView → Bool) (v : Votes) (set : List Bool) (n : ℕ)
    → ((i : ℕ) → i < n → in_set set i ≡ true → test (rule_at v.rules i) ≡ true) → (in_set set n ≡ true → test (rule_at v.rules n) ≡ true)
    → (i : ℕ) → i < n + 1 → in_set set i ≡ true → test (rule_at v.rules i) ≡ true
set-more test v set n before last i lt inside = elim (cases_eq i n) [
  | inl same ↦ ap (λ (k : ℕ). test (rule_at v.rules k)) same ∙ last (ap (in_set set) (sym same) ∙ inside)
  | inr other ↦ before i (omega (arith, lt, other)) inside
]

-- all rules are those of the only way
pub all-way : (v : Votes) → IsVotes v → length v.ways ≡ 1 → IsSomeWay v (true ∷ true ∷ true ∷ true ∷ [])
all-way v game one = record {
  way = 0;
  there = omega (arith, one);
  same = λ i lt. all-true i (omega (arith, lt, game.few_rules)) ∙ sym (only-at v.ways i one game.ways lt);
}
  where
    all-true : (i : ℕ) → i < 4 → get_or (true ∷ true ∷ true ∷ true ∷ []) i false ≡ true
    all-true zero lt = refl
    all-true (suc zero) lt = refl
    all-true (suc (suc zero)) lt = refl
    all-true (suc (suc (suc zero))) lt = refl
    all-true (suc (suc (suc (suc i)))) lt = absurd (omega (arith, lt))

    only-at : (ways : List (List ℕ)) (i : ℕ) → length ways ≡ 1 → are_ways (length v.rules) ways ≡ true → i < length v.rules
        → has_rule (get_or ways 0 []) i ≡ true
    only-at [] i one are lt = absurd (omega (arith, one))
    only-at (way ∷ []) i one are lt = only-way (length v.rules) way i are lt
    only-at (way ∷ other ∷ ways) i one are lt = absurd (omega (arith, one))

-- a test of the first lanes that agrees with one of the rules
pub lanes-pass : (p : RuleView → Bool) (q : Lane → Bool) (rs : List RuleView) (ls : List Lane) → length rs ≤ length ls
    → ((i : ℕ) → i < length rs → q (lane_at ls i) ≡ p (rule_at rs i)) → list_all q (take (length rs) ls) ≡ list_all p rs
lanes-pass p q [] ls le same = refl
lanes-pass p q (r ∷ rs) [] le same = absurd (omega (arith, le))
lanes-pass p q (r ∷ rs) (l ∷ ls) le same =
    rw (same 0 (omega arith), lanes-pass p q rs ls (omega (arith, le)) (λ i lt. same (suc i) (omega (arith, lt)))) refl

module _ {n : ℕ} {r : RuleView} (is : IsRule n r) where
  pub weight-block : (p x : ℕ) → p ≤ n → weight r.weights (x * 2 ^ (n - p)) ≡ weight (take p r.weights) x
  weight-block p x le = rw is.full at (weight-prefix r.weights p x (omega (arith, is.full)))

  -- the places of a prefix, and those after it
  pub weight-parts : (p c : ℕ) → p ≤ n → weight r.weights c ≡ weight (take p r.weights) (c / 2 ^ (n - p)) + weight (drop p r.weights) c
  weight-parts p c le =
      let after : List ℕ = drop p r.weights in
      let long : length after ≡ n - p = length-drop p r.weights ∙ ap (λ (i : ℕ). i - p) is.full in
      -- digits above the places of a list weigh nothing
      let low = sym (weight-skip after (c / 2 ^ length after) (c % 2 ^ length after))
      ∙ ap (weight after) (div-add-mod' c (2 ^ length after)) in
      omega (arith, rw is.full at (weight-at r.weights p c (omega (arith, is.full))), rw long at low)

  -- the next place, with its digit
  pub weight-step : (p q x y b : ℕ) → p < n → q ≡ p + 1 → y ≡ 2 * x + b → b < 2
      → weight (take q r.weights) y ≡ weight (take p r.weights) x + b * get_or r.weights p 0
  weight-step p q x y b below next more digit = rw (next, more) (weight-more r.weights p x b (omega (arith, is.full)) digit)

  -- the next place is left out
  pub weight-over : (p q x y : ℕ) → p < n → q ≡ p + 1 → y ≡ 2 * x → weight (take q r.weights) y ≡ weight (take p r.weights) x
  weight-over p q x y below next twice = omega (arith, weight-step p q x y 0 below next (omega arith) (omega arith))

  pub rest-step : (p : ℕ) → p < n → sum (drop p r.weights) ≡ get_or r.weights p 0 + sum (drop (p + 1) r.weights)
  rest-step p below = sum_by-drop_more (λ (y : ℕ). y) r.weights p 0 (omega (arith, is.full))

module _ (v : Votes) (game : IsVotes v) where
  abbrev n : ℕ
  n = v.members

  pub wins-prefix : (p x : ℕ) → p ≤ n → wins v (x * 2 ^ (n - p)) ≡ wins_at v p x
  unfolding wins wins_at
  wins-prefix p x le = rules-same v game (meets_quota (x * 2 ^ (n - p))) (meets_at p x) (λ r is. rw (weight-block is p x le) refl) nothing
    where
      nothing : meets_quota (x * 2 ^ (n - p)) (record { quota = 0; weights = [] }) ≡ meets_at p x (record { quota = 0; weights = [] })
      nothing = le-leb 0 _ (omega arith) ∙ sym (le-leb 0 _ (omega arith))

  -- a set with a winning prefix wins
  pub wins-below : (p c : ℕ) → p ≤ n → wins_at v p (c / 2 ^ (n - p)) ≡ true → wins v c ≡ true
  unfolding wins wins_at
  wins-below p c le =
      rules-more v game (meets_at p (c / 2 ^ (n - p))) (meets_quota c)
      (λ r is h. le-leb _ _ (omega (arith, leb-true _ _ h, weight-parts is p c le))) (le-leb 0 _ (omega arith))

  -- a set whose prefix cannot reach some quota of each way loses
  pub loses-below : (p c : ℕ) → p ≤ n → wins v c ≡ true → reaches v p (c / 2 ^ (n - p)) ≡ true
  unfolding wins reaches
  loses-below p c le =
      rules-more v game (meets_quota c) (can_meet p (c / 2 ^ (n - p)))
      (λ r is h. le-leb _ _ (omega (arith, leb-true _ _ h, weight-parts is p c le, weight-le (drop p r.weights) c))) (le-leb 0 _ (omega arith))

  pub wins-more : (p q x y : ℕ) → p < n → q ≡ p + 1 → x ≡ y / 2 → wins_at v p x ≡ true → wins_at v q y ≡ true
  unfolding wins_at
  wins-more p q x y below next half =
      rules-more v game (meets_at p x) (meets_at q y) (λ r is h.
      le-leb _ _ (omega (arith, leb-true _ _ h, weight-step is p q x y (y % 2) below next (omega arith) (omega arith)))) (le-leb 0 _ (omega arith))

  pub reaches-in : (p q x y : ℕ) → p < n → q ≡ p + 1 → y ≡ 2 * x + 1 → reaches v p x ≡ true → reaches v q y ≡ true
  unfolding reaches
  reaches-in p q x y below next more =
      rules-more v game (can_meet p x) (can_meet q y) (λ r is h.
      le-leb _ _ (omega (
        arith,
        leb-true _ _ h,
        weight-step is p q x y 1 below next more (omega arith),
        rw (← next) at (rest-step is p below),
      ))) (le-leb 0 _ (omega arith))

  -- the next place is left out
  pub wins-over : (p q x y : ℕ) → p < n → q ≡ p + 1 → y ≡ 2 * x → wins_at v q y ≡ wins_at v p x
  unfolding wins_at
  wins-over p q x y below next twice =
      rules-same v game (meets_at q y) (meets_at p x) (λ r is. rw (weight-over is p q x y below next twice) refl)
      (le-leb 0 _ (omega arith) ∙ sym (le-leb 0 _ (omega arith)))

  -- past the last place, what reaches the quotas wins
  pub full-reach : (p x : ℕ) → n ≤ p → reaches v p x ≡ wins_at v p x
  unfolding reaches wins_at
  full-reach p x past =
      rules-same v game (can_meet p x) (meets_at p x) (λ r is. grind (arith, drop_all)) (le-leb 0 _ (omega arith) ∙ sym (le-leb 0 _ (omega arith)))

-- a coalition that meets the rules of a set meets each quota
pub met-at : (v : Votes) (set : List Bool) (c i : ℕ) → SetPasses (meets_quota c) v set → i < length v.rules → in_set set i ≡ true
    → (rule_at v.rules i).quota ≤ weight (rule_at v.rules i).weights c
met-at v set c i met below inside = leb-true _ _ (met i below inside)

pub sum-from : (ws : List ℕ) (m p : ℕ) → m ≤ length ws → p < m → sum (drop p (take m ws)) ≡ get_or ws p 0 + sum (drop (p + 1) (take m ws))
sum-from ws m p le below = grind (arith, common_steps)

pub sum-past : (ws : List ℕ) (m p : ℕ) → m ≤ p → sum (drop p (take m ws)) ≡ 0
sum-past ws m p past = grind (arith, common_steps, drop_all)

pub drop-most : (xs : List ℕ) (p : ℕ) → sum (drop p xs) ≤ sum xs
drop-most xs p = omega (arith, sum_by-take-drop (λ (y : ℕ). y) xs p)

-- what the members without weight rest on
pub ruleset weightless = (common_steps, has-none)
