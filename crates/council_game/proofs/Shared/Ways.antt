-- Ways to win, and tests of their rules.
use Rattle.council_game.proofs.Imports.{◌≡◌, ℕ, ◌<◌, ◌≤◌, Bool, true, false, List, [], ◌∷◌, length, get_or, refl, arith, list_all, list_any}
use Rattle.council_game.proofs.Imports.{nat_tests, and_parts, ap, range_with_len, Way, way_view, way_views, suc, inl, inr, cases_Bool, cases_eq, eq-eqb, ne_eqb, ◌||◌, cond, sum_by-cons}
use Rattle.council_game.specs.Ways.{are_ways, covers, has_rule, is_way}
use Rattle.std.proofs.Common.{◌&&◌, ◌==◌, ◌∙◌, sym, count_by, leb, ltb, leb-true, ltb-true, lt-ltb, eqb-true}
use Rattle.std.proofs.Math.Bool.{or-false}
use Rattle.std.proofs.lemmas.List.{Sums.AllPass-from_list_all, Sums.list_all-from_AllPass, Folds.list_all-map, Folds.list_any_at}
use Rattle.std.specs.Cmp.{both_ways as same_test}
use Rattle.council_game.proofs.Shared.Lists.{all-at, all-of}

-- ---- what ways are
-- the four parts of the test
module _ (n : ℕ) (ways : List (List ℕ)) (are : are_ways n ways ≡ true) where
  abbrev few : Bool
  few = leb 1 (length ways) && leb (length ways) 6

  abbrev apart : Bool
  apart = list_all (λ way. count_by (covers way) ways == 1) ways

  abbrev used : Bool
  used = list_all (λ r. list_any (λ way. has_rule way r) ways) (range_with_len 0 n)

  parts : (few ≡ true) × (list_all (is_way n) ways ≡ true) × (apart ≡ true) × (used ≡ true)
  parts =
      let first = and_parts (few && list_all (is_way n) ways && apart) used are in
      let second = and_parts (few && list_all (is_way n) ways) apart first.0 in
      let third = and_parts few (list_all (is_way n) ways) second.0 in
      (third.0, third.1, second.1, first.1)

  pub ways-some : (1 ≤ length ways) × (length ways ≤ 6) × (list_all (is_way n) ways ≡ true)
  ways-some =
      let both = and_parts (leb 1 (length ways)) (leb (length ways) 6) parts.0 in
      (leb-true _ _ both.0, leb-true _ _ both.1, parts.1)

  pub rule-used : (r : ℕ) → r < n → list_any (λ way. has_rule way r) ways ≡ true
  rule-used r lt = all-at (λ r. list_any (λ way. has_rule way r) ways) n r lt parts.3

pub way-is : (n : ℕ) (ways : List (List ℕ)) (k : ℕ) (d : List ℕ) → are_ways n ways ≡ true → k < length ways → is_way n (get_or ways k d) ≡ true
way-is n ways k d are lt = AllPass-from_list_all (is_way n) ways (ways-some n ways are).2 k d lt

-- a way has a rule, and its rules are among n
pub way-rule : (n : ℕ) (way : List ℕ) → is_way n way ≡ true → (1 ≤ length way) × ((k d : ℕ) → k < length way → get_or way k d < n)
way-rule n way is =
    let parts = and_parts (leb 1 (length way)) (list_all (λ r. ltb r n && count_by (λ s. s == r) way == 1) way) is in (
      leb-true _ _ parts.0,
      λ k d lt. ltb-true _ _ (and_parts (ltb (get_or way k d) n) (count_by (λ s. s == get_or way k d) way == 1)
          (AllPass-from_list_all (λ r. ltb r n && count_by (λ s. s == r) way == 1) way parts.1 k d lt)).0,
    )

-- the only way has each rule
pub only-way : (n : ℕ) (way : List ℕ) (r : ℕ) → are_ways n (way ∷ []) ≡ true → r < n → has_rule way r ≡ true
only-way n way r are lt = sym (or-false (has_rule way r)) ∙ rule-used n (way ∷ []) are r lt

-- a way as the code holds it
pub held-way : (n : ℕ) (ways : List Way) (k : ℕ) (x : Way) → are_ways n (way_views ways) ≡ true → k < length ways → x ≡ get_or ways k x
    → is_way n (way_view x) ≡ true
held-way n ways k x are lt at =
    ap (λ (w : Way). is_way n (way_view w)) at
    ∙ AllPass-from_list_all (λ (w : Way). is_way n (way_view w)) ways (sym (list_all-map (is_way n) way_view ways) ∙ (ways-some n (way_views ways) are).2) k x lt

-- ---- tests of rules
module _ (p q : ℕ → Bool) (more : (r : ℕ) → p r ≡ true → q r ≡ true) where
  way-more : (way : List ℕ) → list_all p way ≡ true → list_all q way ≡ true
  way-more [] all = refl
  way-more (r ∷ way) all = grind (arith, nat_tests, more r, way-more way)

  -- who meets more rules has a way
  pub ways-more : (ways : List (List ℕ)) → list_any (list_all p) ways ≡ true → list_any (list_all q) ways ≡ true
  ways-more [] any = any
  ways-more (way ∷ ways) any = grind (arith, nat_tests, way-more way, ways-more ways)

-- who meets all rules has a way, and who meets none has none
pub ways-all : (p : ℕ → Bool) (ways : List (List ℕ)) → ((r : ℕ) → p r ≡ true) → 1 ≤ length ways → list_any (list_all p) ways ≡ true
ways-all p [] all some = absurd (omega arith)
ways-all p (way ∷ ways) all some =
    let here : list_all p way ≡ true = way-more (λ _. true) p (λ r _. all r) way (all-true way) in grind (arith, nat_tests)
  where
    all-true : (way : List ℕ) → list_all (λ _. true) way ≡ true
    all-true [] = refl
    all-true (r ∷ way) = all-true way

pub ways-none : (n : ℕ) (p : ℕ → Bool) (ways : List (List ℕ)) → ((r : ℕ) → r < n → p r ≡ false) → list_all (is_way n) ways ≡ true
    → list_any (list_all p) ways ≡ false
ways-none n p [] none are = refl
ways-none n p ([] ∷ ways) none are = absurd cc
ways-none n p ((r ∷ way) ∷ ways) none are =
    let below = (way-rule n (r ∷ way) (and_parts _ _ are).0).1 0 0 (omega arith) in
    grind (arith, nat_tests, none r, ways-none n p ways none)

-- ---- tests of rules, way by way
pub has-own : (way : List ℕ) (k d : ℕ) → k < length way → has_rule way (get_or way k d) ≡ true
has-own way k d lt = list_any_at (λ s. s == get_or way k d) way k d lt (eq-eqb _ _ refl)

-- a way passes a test of its rules, if each of them does
pub way-passes : (t : ℕ → Bool) (way : List ℕ) → ((r : ℕ) → has_rule way r ≡ true → t r ≡ true) → list_all t way ≡ true
way-passes t way each = list_all-from_AllPass t way (λ k d lt. each (get_or way k d) (has-own way k d lt))

pub each-passes : (t : ℕ → Bool) (way : List ℕ) (r : ℕ) → list_all t way ≡ true → has_rule way r ≡ true → t r ≡ true
each-passes t [] r all has = absurd cc
each-passes t (s ∷ way) r all has =
    let parts = and_parts (t s) (list_all t way) all in
    elim (cases_eq s r) [
      | inl same ↦ ap t (sym same) ∙ parts.0
      | inr other ↦ each-passes t way r parts.1 (sym (ap (λ (b : Bool). b || has_rule way r) (ne_eqb _ _ other)) ∙ has)
    ]

-- a rule of a way is one of all rules
pub own-rule : (n : ℕ) (ways : List (List ℕ)) (k r : ℕ) → are_ways n ways ≡ true → k < length ways → has_rule (get_or ways k []) r ≡ true → r < n
own-rule n ways k r are lt has =
    let way = way-rule n (get_or ways k []) (way-is n ways k [] are lt) in
    ltb-true r n (each-passes (λ s. ltb s n) (get_or ways k []) r
    (list_all-from_AllPass (λ s. ltb s n) (get_or ways k []) (λ j d at. lt-ltb _ _ (way.1 j d at))) has)

-- the only way has all rules
pub one-way-passes : (n : ℕ) (ways : List (List ℕ)) (t : ℕ → Bool) → are_ways n ways ≡ true → length ways ≡ 1
    → list_any (list_all t) ways ≡ list_all t (range_with_len 0 n)
one-way-passes n [] t are one = absurd (omega (arith, one))
one-way-passes n (way ∷ other ∷ ways) t are one = absurd (omega (arith, one))
one-way-passes n (way ∷ []) t are one =
    let below = (way-rule n way (way-is n (way ∷ []) 0 [] are (omega arith))).1 in
    or-false (list_all t way)
    ∙ same_test _ _ (λ all. all-of t n (λ r lt. each-passes t way r all (only-way n way r are lt)))
    (λ all. list_all-from_AllPass t way (λ k d lt. all-at t n (get_or way k d) (below k d lt) all))

-- under one rule only this rule counts
pub one-rule-passes : (ways : List (List ℕ)) (t : ℕ → Bool) → are_ways 1 ways ≡ true → list_any (list_all t) ways ≡ t 0
one-rule-passes ways t are =
    let some = ways-some 1 ways are in
    elim (cases_Bool (t 0)) [
      | inl passes ↦
          let zero-passes : (r : ℕ) → r < 1 → t r ≡ true = λ r lt. ap t (let e : r ≡ 0 = omega (arith, lt) in e) ∙ passes in
          list_any_at (list_all t) ways 0 [] some.0
          (list_all-from_AllPass t (get_or ways 0 []) (λ k d lt. zero-passes _ ((way-rule 1 _ (way-is 1 ways 0 [] are some.0)).1 k d lt)))
          ∙ sym passes
      | inr fails ↦ ways-none 1 t ways (λ r lt. ap t (let e : r ≡ 0 = omega (arith, lt) in e) ∙ fails) some.2 ∙ sym fails
    ]

-- some entry passes
pub some-passes : {X : Type 0} (p : X → Bool) (xs : List X) (d : X) → list_any p xs ≡ true → (k : ℕ) × (k < length xs) × (p (get_or xs k d) ≡ true)
some-passes p [] d any = absurd cc
some-passes p (x ∷ xs) d any = elim (cases_Bool (p x)) [
  | inl here ↦ (0, omega arith, here)
  | inr out ↦ let found = some-passes p xs d (sym (ap (λ (b : Bool). b || list_any p xs) out) ∙ any) in (suc found.0, omega (arith, found.1), found.2)
]

-- under one rule there is one way
pub one-rule-one-way : (ways : List (List ℕ)) → are_ways 1 ways ≡ true → length ways ≡ 1
one-rule-one-way [] are = absurd (omega (arith, (ways-some 1 [] are).0))
one-rule-one-way (way ∷ []) are = refl
one-rule-one-way (way ∷ other ∷ ways) are =
    let all : List (List ℕ) = way ∷ other ∷ ways in
    let first = way-rule 1 way (way-is 1 all 0 [] are (omega arith)) in
    let second = way-rule 1 other (way-is 1 all 1 [] are (omega arith)) in
    let zero-in : (r : ℕ) → r < 1 → has_rule way r ≡ true = λ r lt.
    ap (has_rule way) (let low = first.1 0 0 first.0 in let e : r ≡ get_or way 0 0 = omega (arith, lt, low) in e) ∙ has-own way 0 0 first.0 in
    let own : covers way way ≡ true = list_all-from_AllPass (has_rule way) way (λ k d lt. zero-in (get_or way k d) (first.1 k d lt)) in
    let also : covers way other ≡ true = list_all-from_AllPass (has_rule way) other (λ k d lt. zero-in (get_or other k d) (second.1 k d lt)) in
    let alone = AllPass-from_list_all (λ w. count_by (covers w) all == 1) all (parts 1 all are).2 0 [] (omega arith) in
    let one : count_by (covers way) all ≡ 1 = eqb-true _ _ alone in
    let more = sum_by-cons (λ w. cond (covers way w) 1 0) way (other ∷ ways) in
    let most = sum_by-cons (λ w. cond (covers way w) 1 0) other ways in
    absurd (grind (arith, nat_tests, own, also, one, more, most))
