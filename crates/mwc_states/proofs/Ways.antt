-- States of several ways: a set completes such a state if it meets one of the needs, and none of
-- them without any one of its members.
use Rattle.std.proofs.{Common.leb-true, lemmas.Bool.cond-true, lemmas.Bool.true_from_ne_false, lemmas.Bool.cases_Bool}
use Rattle.mwc_states.proofs.Imports.{common_steps, list_all, and_parts, both_ways, not-true, nat_tests, list_all-map, false_from_ne_true}
use Rattle.mwc_states.proofs.Imports.{sum_by-cons, ◌≡◌, ◌∙◌, ℕ, ◌+◌, ◌-◌, ◌<◌, ◌≤◌, ◌&&◌, ◌++◌, Bool, true, false, not, cond, List, [], ◌∷◌, length, take, drop, filter, map}
use Rattle.mwc_states.proofs.Imports.{get_or, sym, ap, refl, inl, inr, arith, zero-add, MOST, min, weigh, meets, without_one, misses_all, row_at}
use Rattle.mwc_states.proofs.Imports.{completes, ByWays, Leads, cases_lt}
use Rattle.std.proofs.lemmas.List.{drop_all}
use Rattle.std.specs.{List.list_any}
use Rattle.std.proofs.{Common.take_all, Math.Seq.drop-append_seam, Math.Seq.take-append_seam}
use Rattle.mwc_states.specs.Inner.Later.{AreLeft, alive, is_able, is_able_any, misses_left_any, weigh_able_any}
use Rattle.mwc_states.specs.Inner.States.{fits_any}
use Rattle.mwc_states.proofs.{Able.spared, Leaving.misses_all-implied, Leaving.misses-more}
use Rattle.mwc_states.proofs.Meeting.{Reaches, reach, reached}

-- ---- one member is decided
each-left : (members : List (List ℕ)) (member : List ℕ) (taken : Bool) (xs ys : List (List ℕ)) (set : List Bool) → AreLeft members member taken xs ys
    → list_all (λ less. misses_all (weigh (member ∷ members) less) xs) (without_one (taken ∷ set))
    ≡ (cond taken (misses_all (weigh members set) xs) true && list_all (λ less. misses_all (weigh members less) ys) (without_one set))
unfolding without_one weigh
each-left members member true xs ys set alike =
    ap (λ b. misses_all (weigh members set) xs && b)
    (list_all-map (λ less. misses_all (weigh (member ∷ members) less) xs) (λ less. true ∷ less) (without_one set)
    ∙ sym (λ i. list_all (λ less. alike less i) (without_one set)))
each-left members member false xs ys set alike =
    list_all-map (λ less. misses_all (weigh (member ∷ members) less) xs) (λ less. false ∷ less) (without_one set)
    ∙ sym (λ i. list_all (λ less. alike less i) (without_one set))

-- the needs become misses, if the member is taken
any-left : (members : List (List ℕ)) (member : List ℕ) (taken : Bool) (xs ys : List (List ℕ)) (set : List Bool) → AreLeft members member taken xs ys
    → fits_any (member ∷ members) xs (taken ∷ set) ≡ (fits_any members ys set && cond taken (misses_all (weigh members set) xs) true)
any-left members member taken xs ys set alike = grind (arith, nat_tests, alike set, each-left members member taken xs ys set alike)

-- one need more
pub needs-more : (members : List (List ℕ)) (member : List ℕ) (taken : Bool) (old : List (List ℕ)) (less need : List ℕ) (set : List Bool) (i : ℕ) → i < length old
    → ((r : ℕ) → get_or less r 0 ≡ get_or (row_at old i) r 0 - cond taken (get_or member r 0) 0)
    → ((set : List Bool) → meets (weigh members set) need ≡ meets (weigh members set) less)
    → misses_all (weigh (member ∷ members) (taken ∷ set)) (take (i + 1) old)
    ≡ (misses_all (weigh (member ∷ members) (taken ∷ set)) (take i old) && not (meets (weigh members set) need))
needs-more members member taken old less need set i lt is same =
    misses-more members member taken old less set i lt is
    ∙ ap (λ b. misses_all (weigh (member ∷ members) (taken ∷ set)) (take i old) && not b) (sym (same set))

-- ---- members that a minimal set may have: for each need that the row meets
all-able : (needs : List (List ℕ)) (row member : List ℕ) (others : ℕ → ℕ) → misses_all others needs ≡ true
    → Reaches (λ r. others r + get_or member r 0) row → is_able_any needs row member ≡ true
all-able [] row member others missed met = refl
all-able (need ∷ needs) row member others missed met =
    let apart = and_parts (not (meets others need)) (misses_all others needs) missed in
    let rest = all-able needs row member others apart.1 met in
    let here : meets (λ r. get_or row r 0) need ≡ true → is_able need row member ≡ true =
    λ over. true_from_ne_false _ (λ e. both_ways _ (not-true _ apart.0) (reached others need
    (spared need row member others e (λ k lt. omega (arith, met k lt, reach (λ r. get_or row r 0) need over k lt)) met))) in
    grind (arith, nat_tests, here, rest)

within-able_any : (needs : List (List ℕ)) (row : List ℕ) (members : List (List ℕ)) (set : List Bool) (others : ℕ → ℕ)
    → list_all (λ less. misses_all (λ r. others r + weigh members less r) needs) (without_one set) ≡ true
    → Reaches (λ r. others r + weigh members set r) row
    → (r : ℕ) → weigh members set r ≤ weigh_able_any needs row members r
unfolding weigh without_one
within-able_any needs row [] set others each met r = omega arith
within-able_any needs row (member ∷ members) [] others each met r = omega arith
within-able_any needs row (member ∷ members) (false ∷ set) others each met r =
    let rest = within-able_any needs row members set others
    (sym (list_all-map (λ less. misses_all (λ r. others r + weigh (member ∷ members) less r) needs) (λ less. false ∷ less) (without_one set)) ∙ each) met r in
    simp sum_by-cons (omega (arith, rest))
within-able_any needs row (member ∷ members) (true ∷ set) others each met r =
    let f : List Bool → Bool = λ less. misses_all (λ r. others r + weigh (member ∷ members) less r) needs in
    let apart = and_parts (f (false ∷ set)) (list_all f (map (λ less. true ∷ less) (without_one set))) each in
    let assoc : (less : List Bool) (r : ℕ) → others r + get_or member r 0 + weigh members less r ≡ others r + weigh (member ∷ members) (true ∷ less) r =
    λ less r. omega arith in
    let one : list_all (λ less. misses_all (λ r. others r + get_or member r 0 + weigh members less r) needs) (without_one set) ≡ true =
    (λ i. list_all (λ less. misses_all (λ r. assoc less r i) needs) (without_one set))
    ∙ sym (list_all-map f (λ less. true ∷ less) (without_one set)) ∙ apart.1 in
    let able : is_able_any needs row member ≡ true =
    all-able needs row member (λ r. others r + weigh members set r) apart.0 (λ k lt. omega (arith, met k lt)) in
    let rest = within-able_any needs row members set (λ r. others r + get_or member r 0) one (λ k lt. omega (arith, met k lt)) r in
    grind (arith, nat_tests, common_steps, sum_by-cons, get_or, cond-true)

-- where all able members miss the row, each minimal set does
pub missed-any : (needs : List (List ℕ)) (row able : List ℕ) (members : List (List ℕ)) (set : List Bool)
    → ((r : ℕ) → get_or able r 0 ≡ min (weigh_able_any needs row members r) MOST) → ((r : ℕ) → get_or row r 0 ≤ MOST)
    → meets (λ r. get_or able r 0) row ≡ false → fits_any members needs set ≡ true → meets (weigh members set) row ≡ false
missed-any needs row able members set is small not_met fitting =
    let parts = and_parts (not (misses_all (weigh members set) needs)) (list_all (λ less. misses_all (weigh members less) needs) (without_one set)) fitting in
    false_from_ne_true _ (λ e. both_ways _ not_met (reached _ row (λ r lt.
    let within = within-able_any needs row members set (λ r. 0)
    ((λ i. list_all (λ less. misses_all (λ r. zero-add (weigh members less r) i) needs) (without_one set)) ∙ parts.1)
    (λ k below. omega (arith, reach _ row e k below)) r in
    omega (arith, within, is r, small r, reach _ row e r lt))))

pub ruleset able_any = (nat_tests, missed-any, min, weigh_able_any, take_all, not-true)

-- ---- needs that meet a miss
-- tests that agree on all sets that weigh no more agree on those that one member leaves
less-same : (members : List (List ℕ)) (set : List Bool) (f g : List Bool → Bool)
    → ((less : List Bool) → ((r : ℕ) → weigh members less r ≤ weigh members set r) → f less ≡ g less)
    → list_all f (without_one set) ≡ list_all g (without_one set)
unfolding without_one weigh
less-same members [] f g h = refl
less-same [] (true ∷ set) f g h =
    let rest = less-same [] set (λ less. f (true ∷ less)) (λ less. g (true ∷ less)) (λ less le. h (true ∷ less) (λ r. omega (arith))) in
    grind (arith, nat_tests, h (false ∷ set) (λ r. omega arith), rest, list_all-map)
less-same [] (false ∷ set) f g h =
    list_all-map f (λ less. false ∷ less) (without_one set)
    ∙ less-same [] set (λ less. f (false ∷ less)) (λ less. g (false ∷ less)) (λ less le. h (false ∷ less) (λ r. omega arith))
    ∙ sym (list_all-map g (λ less. false ∷ less) (without_one set))
less-same (member ∷ members) (true ∷ set) f g h =
    let rest = less-same members set (λ less. f (true ∷ less)) (λ less. g (true ∷ less)) (λ less le. h (true ∷ less) (λ r. omega (arith, le r))) in
    grind (arith, nat_tests, h (false ∷ set) (λ r. omega arith), rest, list_all-map)
less-same (member ∷ members) (false ∷ set) f g h =
    list_all-map f (λ less. false ∷ less) (without_one set)
    ∙ less-same members set (λ less. f (false ∷ less)) (λ less. g (false ∷ less)) (λ less le. h (false ∷ less) (λ r. omega (arith, le r)))
    ∙ sym (list_all-map g (λ less. false ∷ less) (without_one set))

-- who weighs no more than a set that misses all misses meets none of the others
alive-same : (w u : ℕ → ℕ) (misses needs : List (List ℕ)) → misses_all w misses ≡ true → ((r : ℕ) → u r ≤ w r)
    → misses_all u (alive misses needs) ≡ misses_all u needs
alive-same w u misses [] clear le = refl
alive-same w u misses (need ∷ needs) clear le =
    let rest = alive-same w u misses needs clear le in
    let unmet : list_any (λ row. meets (λ r. get_or need r 0) row) misses ≡ true → meets u need ≡ false =
    λ dead. false_from_ne_true _ (λ e.
    let up : meets w need ≡ true = reached w need (λ r lt. omega (arith, le r, reach u need e r lt)) in
    both_ways _ (not-true _ (and_parts (misses_all w misses) (not (meets w need)) (sym (misses_all-implied w need misses dead) ∙ clear)).1) up) in
    grind (arith, nat_tests, rest, unmet)

alive-fits : (members : List (List ℕ)) (misses needs : List (List ℕ)) (set : List Bool)
    → (fits_any members (alive misses needs) set && misses_all (weigh members set) misses)
    ≡ (fits_any members needs set && misses_all (weigh members set) misses)
alive-fits members misses needs set = elim (cases_Bool (misses_all (weigh members set) misses)) [
  | inl clear ↦
      let here = alive-same (weigh members set) (weigh members set) misses needs clear (λ r. omega arith) in
      let each = less-same members set (λ less. misses_all (weigh members less) (alive misses needs)) (λ less. misses_all (weigh members less) needs)
      (λ less le. alive-same (weigh members set) (weigh members less) misses needs clear le) in
      grind (arith, nat_tests, here, each)
  | inr closed ↦ grind (arith, nat_tests, closed)
]

-- as many rows as there are
pub take-few : (k : ℕ) (rows : List (List ℕ)) → (take (min k (length rows)) rows ≡ take k rows) × (drop (min k (length rows)) rows ≡ drop k rows)
take-few k rows = elim (cases_lt k (length rows)) [
  | inl less ↦ let e : min k (length rows) ≡ k = omega (arith, less) in (ap (λ (i : ℕ). take i rows) e, ap (λ (i : ℕ). drop i rows) e)
  | inr more ↦ let e : min k (length rows) ≡ length rows = omega (arith, more) in (
    ap (λ (i : ℕ). take i rows) e ∙ take_all (length rows) rows (omega arith) ∙ sym (take_all k rows more),
    ap (λ (i : ℕ). drop i rows) e ∙ drop_all (length rows) rows (omega arith) ∙ sym (drop_all k rows more),
  )
]

-- ---- where a state leads
module _ (members : List (List ℕ)) (member : List ℕ) (taken : Bool) (head : List ℕ) (rows needs misses : List (List ℕ))
    (are : AreLeft members member taken (take (get_or head 0 0) rows) needs)
    (same : (set : List Bool) → fits_any members needs set ≡ true
    → misses_all (weigh members set) misses ≡ misses_left_any members member taken (take (get_or head 0 0) rows) (drop (get_or head 0 0) rows) set) where
  completes-alive : (set : List Bool) → completes ByWays (member ∷ members) (head ∷ rows) (taken ∷ set)
      ≡ (fits_any members (alive misses needs) set && misses_all (weigh members set) misses)
  unfolding completes
  completes-alive set =
      let left = any-left members member taken (take (get_or head 0 0) rows) needs set are in
      sym (alive-fits members misses needs set ∙ grind (arith, nat_tests, left, same set))

  leads-ways : Leads ByWays members member taken (head ∷ rows)
      ((length (alive misses needs) ∷ 0 ∷ 0 ∷ 0 ∷ []) ∷ (alive misses needs ++ misses))
  unfolding completes
  leads-ways set =
      completes-alive set
      ∙ (λ i. fits_any members (sym (take-append_seam (alive misses needs) misses) i) set
      && misses_all (weigh members set) (sym (drop-append_seam (alive misses needs) misses) i))

  leads-nowhere : (left : List (List ℕ)) → left ≡ alive misses needs → length left ≡ 0 → Leads ByWays members member taken (head ∷ rows) left
  unfolding completes
  leads-nowhere (need ∷ left) is none set = absurd (omega (arith, none))
  leads-nowhere [] is none set = completes-alive set ∙ (λ i. fits_any members (sym is i) set && misses_all (weigh members set) misses)

module _ (members : List (List ℕ)) (member : List ℕ) (taken : Bool) (state : List (List ℕ)) (head : List ℕ) (rows front back needs misses left : List (List ℕ))
    (is : state ≡ head ∷ rows) (first : front ≡ take (min (get_or head 0 0) (length rows)) rows) (last : back ≡ drop (min (get_or head 0 0) (length rows)) rows)
    (are : AreLeft members member taken front needs)
    (same : (set : List Bool) → fits_any members needs set ≡ true
    → misses_all (weigh members set) misses ≡ misses_left_any members member taken front back set)
    (kept : left ≡ alive misses needs) where
  cut-front : front ≡ take (get_or head 0 0) rows
  cut-front = first ∙ (take-few (get_or head 0 0) rows).0

  cut-back : back ≡ drop (get_or head 0 0) rows
  cut-back = last ∙ (take-few (get_or head 0 0) rows).1

  pub decided-open : (all : List (List ℕ)) → all ≡ (length left ∷ 0 ∷ 0 ∷ 0 ∷ []) ∷ (left ++ misses) → Leads ByWays members member taken state all
  decided-open all whole =
      rw (whole, kept, is) (leads-ways members member taken head rows needs misses (rw cut-front at are) (rw (cut-front, cut-back) at same))

  pub decided-dead : length left ≡ 0 → Leads ByWays members member taken state left
  decided-dead none =
      rw is (leads-nowhere members member taken head rows needs misses (rw cut-front at are) (rw (cut-front, cut-back) at same) left kept none)
