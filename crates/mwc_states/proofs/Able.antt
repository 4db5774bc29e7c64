-- Members that a minimal set may have.
use Rattle.std.proofs.{Common.take_all, lemmas.Bool.cond-true, lemmas.Bool.true_from_ne_false, lemmas.List.Folds.list_any_at}
use Rattle.mwc_states.proofs.Imports.{common_steps, list_all, and_parts, both_ways, not-true, nat_tests, list_all-map, false_from_ne_true}
use Rattle.mwc_states.proofs.Imports.{get_or-range_with_len, sum_by-cons, ◌≡◌, ◌∙◌, ℕ, ◌+◌, ◌≤◌, Bool, true, false, not, List, [], ◌∷◌}
use Rattle.mwc_states.proofs.Imports.{get_or, sym, arith, zero-add, MOST, min, weigh, meets, without_one, needs_each, fits, weigh_able}
use Rattle.mwc_states.specs.Inner.Later.{is_able}
use Rattle.mwc_states.proofs.Meeting.{Reaches, reach, reached}

-- without a member that is not able, the others meet the need
pub spared : (need row member : List ℕ) (others : ℕ → ℕ) → is_able need row member ≡ false
    → Reaches (λ r. others r + get_or member r 0) need → Reaches (λ r. others r + get_or member r 0) row → Reaches others need
unfolding is_able
spared need row member others not_able meets_need meets_row r lt =
    grind (arith, get_or-range_with_len, zero-add, false_from_ne_true, both_ways, list_any_at, nat_tests)

within-able : (need row : List ℕ) (members : List (List ℕ)) (set : List Bool) (others : ℕ → ℕ)
    → list_all (λ less. not (meets (λ r. others r + weigh members less r) need)) (without_one set) ≡ true
    → Reaches (λ r. others r + weigh members set r) need → Reaches (λ r. others r + weigh members set r) row
    → (r : ℕ) → weigh members set r ≤ weigh_able need row members r
unfolding weigh without_one
within-able need row [] set others each meets_need meets_row r = omega arith
within-able need row (member ∷ members) [] others each meets_need meets_row r = omega arith
within-able need row (member ∷ members) (false ∷ set) others each meets_need meets_row r =
    let rest = within-able need row members set others
    (sym (list_all-map (λ less. not (meets (λ r. others r + weigh (member ∷ members) less r) need)) (λ less. false ∷ less) (without_one set)) ∙ each)
    meets_need meets_row r in
    simp sum_by-cons (omega (arith, rest))
within-able need row (member ∷ members) (true ∷ set) others each meets_need meets_row r =
    let apart = and_parts _ _ each in
    let without : ℕ → ℕ = λ r. others r + weigh members set r in
    let one : list_all (λ less. not (meets (λ r. others r + get_or member r 0 + weigh members less r) need)) (without_one set) ≡ true =
    grind (arith, list_all-map) in
    let able : is_able need row member ≡ true = true_from_ne_false _ (λ e. both_ways _ (not-true _ apart.0)
    (reached without need (spared need row member without e (λ k lt. omega (arith, meets_need k lt)) (λ k lt. omega (arith, meets_row k lt))))) in
    let rest = within-able need row members set (λ r. others r + get_or member r 0) one
    (λ k lt. omega (arith, meets_need k lt)) (λ k lt. omega (arith, meets_row k lt)) r in
    grind (arith, nat_tests, common_steps, sum_by-cons, get_or, cond-true)

-- where all able members miss the row, each minimal set does
pub missed : (need row able : List ℕ) (members : List (List ℕ)) (set : List Bool) → ((r : ℕ) → get_or able r 0 ≡ min (weigh_able need row members r) MOST)
    → ((r : ℕ) → get_or row r 0 ≤ MOST) → meets (λ r. get_or able r 0) row ≡ false → fits members need set ≡ true → meets (weigh members set) row ≡ false
missed need row able members set is small not_met fitting =
    let parts = and_parts (meets (weigh members set) need) (needs_each members set need) fitting in
    false_from_ne_true _ (λ e. both_ways _ not_met (reached _ row (λ r lt.
    let within = within-able need row members set (λ r. 0)
    ((λ i. list_all (λ less. not (meets (λ r. zero-add (weigh members less r) i) need)) (without_one set)) ∙ parts.1)
    (λ k below. omega (arith, reach _ need parts.0 k below)) (λ k below. omega (arith, reach _ row e k below)) r in
    omega (arith, within, is r, small r, reach _ row e r lt))))

pub ruleset able = (nat_tests, missed, min, weigh_able, take_all, not-true)
