-- The places of a coalition, one by one, and what their members add to a line.
use Rattle.council_report.proofs.Imports.{common_steps, ◌≡◌, ℕ, zero, suc, ◌+◌, ◌-◌, ◌<◌, ◌≤◌, ◌++◌, Bool, true, false, cond, List, [], ◌∷◌}
use Rattle.council_report.proofs.Imports.{votes-are, weight-le, with_tab, places_before, fields_of, weights_under, HasNoneFrom, SameBefore}
use Rattle.council_report.proofs.Imports.{length, take, drop, slice_index, refl, sym, ap, ◌∙◌, arith, inl, inr, range_with_len, cases_lt}
use Rattle.council_report.proofs.Imports.{cond-true, flat_map-append, append-nil, length-map, take-append-drop, length-range_with_len}
use Rattle.council_report.proofs.Imports.{nat_tests, IsRule, has, weight, rule_at, GameView, IsGame, votes_of}
use Rattle.std.proofs.lemmas.List.{map-append, get_or_past, FromFn.take-map-range_with_len, FromFn.filter_of_map_range_with_len_more}
use Rattle.std.proofs.lemmas.{Bool.cond-false, List.Elements.filter-append, List.Sums.sum_by-append, List.Sums.sum_by-cons}
use Rattle.std.proofs.Common.{filter, map-id}
use Rattle.council_game.proofs.Shared.Meanings.{weighs-its-members}
use Rattle.power_index.proofs.Shared.Sums.{length-filter-le}
use Rattle.council_report.specs.Inner.SharedLine.{name_at, weight_of_places}
use Rattle.council_report.proofs.Bounds.{with_tab-fits, each-field, name-fits}

-- ---- the places before one
before-more : (n c k : ℕ) → places_before n c (k + 1) ≡ places_before n c k ++ cond (has n k c) (k ∷ []) []
unfolding places_before
before-more n c k = simp map-id at (filter_of_map_range_with_len_more (λ p. has n p c) (λ x. x) 0 k k (omega arith))

pub before-none : (n c : ℕ) → places_before n c 0 ≡ []
unfolding places_before
before-none n c = refl

pub before-in : (n c k : ℕ) → has n k c ≡ true → places_before n c (k + 1) ≡ places_before n c k ++ k ∷ []
before-in n c k in' = before-more n c k ∙ ap (λ (ps : List ℕ). places_before n c k ++ ps) (cond-true (has n k c) (k ∷ []) [] in')

pub before-out : (n c k : ℕ) → has n k c ≡ false → places_before n c (k + 1) ≡ places_before n c k
before-out n c k out = grind (arith, nat_tests, before-more, cond-false, append-nil)

-- two coalitions with the same of them
pub before-same : (n a b k : ℕ) → SameBefore n k a b → places_before n a k ≡ places_before n b k
before-same n a b zero same = before-none n a ∙ sym (before-none n b)
before-same n a b (suc k) same =
    let first = before-same n a b k (λ p below. same p (omega (arith, below))) in
    let next : suc k ≡ k + 1 = omega arith in grind (arith, before-more)

-- m places more, none of them in
before-further : (n c k m : ℕ) → HasNoneFrom n k c → k + m ≤ n → places_before n c (k + m) ≡ places_before n c k
before-further n c k zero none le = ap (places_before n c) (let e : k + zero ≡ k = omega arith in e)
before-further n c k (suc m) none le =
    let next : k + suc m ≡ k + m + 1 = omega arith in grind (arith, before-further n c k m none (omega (arith, le)), before-out)

-- those before k are all
pub before-all : (n c k : ℕ) → k ≤ n → HasNoneFrom n k c → places_before n c n ≡ places_before n c k
before-all n c k le none =
    let m = n - k in
    let e : k + m ≡ n = omega (arith, le) in grind (arith, nat_tests, common_steps, before-further)

-- those of the places from k on come after
pub before-front : (n c k j : ℕ) → k ≤ j → (rest : List ℕ) × (places_before n c j ≡ places_before n c k ++ rest)
unfolding places_before
before-front n c k j le =
    let In : ℕ → Bool = λ p. has n p c in
    let behind : List ℕ = drop k (range_with_len 0 j) in
    let front : take k (range_with_len 0 j) ≡ range_with_len 0 k = simp map-id at (take-map-range_with_len (λ x. x) 0 j k le) in (
      filter In behind,
      sym (ap (filter In) (take-append-drop k (range_with_len 0 j))) ∙ filter-append In (take k (range_with_len 0 j)) behind
          ∙ ap (λ (ps : List ℕ). filter In ps ++ filter In behind) front,
    )

before-few : (n c k : ℕ) → length (places_before n c k) ≤ k
unfolding places_before
before-few n c k = omega (arith, length-filter-le (λ p. has n p c) (range_with_len 0 k), length-range_with_len 0 k)

-- ---- the names
pub fields-append : (g : GameView) (ps qs : List ℕ) → fields_of g (ps ++ qs) ≡ fields_of g ps ++ fields_of g qs
unfolding fields_of
fields-append g ps qs = grind (arith, nat_tests, map-append, flat_map-append)

pub fields-more : (g : GameView) (ps : List ℕ) (p : ℕ) → fields_of g (ps ++ p ∷ []) ≡ fields_of g ps ++ with_tab (name_at g p)
unfolding fields_of
fields-more g ps p = fields-append g ps (p ∷ []) ∙ ap (λ (t : List ℕ). fields_of g ps ++ t) (append-nil (with_tab (name_at g p)))

pub fields-none : (g : GameView) → fields_of g [] ≡ []
unfolding fields_of
fields-none g = refl

pub fields-fit : (g : GameView) → IsGame g → (c k : ℕ) → k ≤ 40 → length (fields_of g (places_before (length g.names) c k)) ≤ 3400
unfolding fields_of
fields-fit g game c k few = grind (arith, nat_tests, with_tab-fits 84, each-field, name-fits, length-map, before-few)

-- ---- the weights
weights-append : (g : GameView) (r : ℕ) (ps qs : List ℕ)
    → weight_of_places g r (ps ++ qs) ≡ weight_of_places g r ps + weight_of_places g r qs
unfolding weight_of_places
weights-append g r ps qs = grind (arith, nat_tests, map-append, sum_by-append)

pub weights-none : (g : GameView) (r : ℕ) → weight_of_places g r [] ≡ 0
unfolding weight_of_places
weights-none g r = refl

pub weights-more : (g : GameView) (r : ℕ) (ps : List ℕ) (p : ℕ)
    → weight_of_places g r (ps ++ p ∷ []) ≡ weight_of_places g r ps + slice_index (weights_under g r) p
unfolding weight_of_places
weights-more g r ps p = grind (arith, nat_tests, sum_by-cons, weights-append, weights-none)

-- a rule of the game
pub rule-is : (g : GameView) → IsGame g → (r : ℕ) → r < length g.rules → IsRule (length g.names) (rule_at (votes_of g).rules r)
rule-is g game r lt = grind (arith, nat_tests, votes-are, common_steps)

pub weights-all : (g : GameView) → IsGame g → (r c : ℕ) → r < length g.rules
    → weight_of_places g r (places_before (length g.names) c (length g.names)) ≡ weight (rule_at (votes_of g).rules r).weights c
unfolding weight_of_places weights_under places_before
weights-all g game r c lt = grind (arith, nat_tests, rule-is, weighs-its-members)

-- if there is no rule, nothing weighs anything
pub under-none : (g : GameView) (r p : ℕ) → length g.rules ≤ r → slice_index (weights_under g r) p ≡ 0
unfolding weights_under
under-none g r p past = grind (arith, nat_tests, length-map, get_or_past)

weights-past : (g : GameView) (r : ℕ) → length g.rules ≤ r → (ps : List ℕ) → weight_of_places g r ps ≡ 0
weights-past g r past [] = weights-none g r
weights-past g r past (p ∷ ps) =
    let first = weights-append g r (p ∷ []) ps in
    let alone = weights-more g r [] p in
    let light = under-none g r p past in grind (arith, nat_tests, common_steps, weights-past g r past ps, weights-none)

pub weights-light : (g : GameView) → IsGame g → (r c k : ℕ) → k ≤ length g.names
    → weight_of_places g r (places_before (length g.names) c k) ≤ 40000000000000
weights-light g game r c k le =
    let n : ℕ = length g.names in
    elim (cases_lt r (length g.rules)) [
      | inl lt ↦
          let rule = rule-is g game r lt in
          let front = before-front n c k n le in
          let whole = ap (weight_of_places g r) front.1 ∙ weights-append g r (places_before n c k) front.0 in
          let most = weight-le (rule_at (votes_of g).rules r).weights c in
          omega (arith, whole, weights-all g game r c lt, most, rule.light)
      | inr past ↦ omega (arith, weights-past g r past (places_before n c k))
    ]
