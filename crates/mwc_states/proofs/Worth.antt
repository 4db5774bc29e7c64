-- How many sets pass a test, what choices are worth, and the sets of a graph that have a member.
use Rattle.mwc_states.proofs.Imports.{drop-cons, get_or_append_left, get_or_past, get_or_push, get_or-map, length-map, map-append, accepts}
use Rattle.mwc_states.proofs.Imports.{sum_by_more_le, arith, nat_tests, cases_lt, inl, inr, count_sets, ◌++◌, ◌&&◌, cond, leb, [], length}
use Rattle.mwc_states.proofs.Imports.{◌≡◌, ◌∙◌, ℕ, zero, suc, ◌+◌, ◌-◌, ◌*◌, ◌^◌, ◌<◌, ◌≤◌, Bool, true, false, List, ◌∷◌, refl, sym, ap}
use Rattle.mwc_states.proofs.Imports.{link_at, lists, rows_at, count_at, worth, All, IsWithin, sum_by-cons, Choices, drop, get_or}
use Rattle.mwc_states.proofs.Imports.{with_fewer, with_later, ◌==◌, take, ltb, cases_eq, set, get_or-set_other}
use Rattle.mwc_states.specs.Inner.Counting.{with_member, later, over_choices, step, AreLeading, AreCompleting}
use Rattle.std.proofs.lemmas.{Grind.get_or-set_at, List.map-set}
use Rattle.std.proofs.lemmas.List.{drop_all, get_or_default, Elements.All-cons, Elements.All-nil, Sums.sum_by-le-sum_by}
use Rattle.std.proofs.lemmas.Bool.{cond_both}
use Rattle.std.proofs.Common.{◌⊎◌, ◌≢◌, ◌/◌, mul-le-mul, pow_mono, slice_index, Vec, Global}
use Rattle.mwc_states.specs.Inner.{Links.IsGraph, Sets.has}
unfoldable use Rattle.mwc_states.specs.Inner.Sets.{count_sets}
unfoldable use Rattle.mwc_states.specs.Inner.Links.{accepts}
unfoldable use Rattle.mwc_states.specs.Inner.Counting.{over_choices}

pub sets-none : (n s : ℕ) → count_sets n (λ set. false) s ≡ 0
unfolding count_sets
sets-none zero zero = refl
sets-none zero (suc s) = refl
sets-none (suc n) zero = sets-none n zero
sets-none (suc n) (suc s) = omega (arith, sets-none n (suc s), sets-none n s)

pub sets-few : (n s : ℕ) (test : List Bool → Bool) → count_sets n test s ≤ 2 ^ n
unfolding count_sets
sets-few zero zero test = grind (arith, true, false)
sets-few zero (suc s) test = omega arith
sets-few (suc n) zero test = let more : 2 ^ suc n ≡ 2 * 2 ^ n = omega arith in omega (arith, more, sets-few n zero (λ set. test (false ∷ set)))
sets-few (suc n) (suc s) test =
    let more : 2 ^ suc n ≡ 2 * 2 ^ n = omega arith in omega (arith, more, sets-few n (suc s) (λ set. test (false ∷ set)), sets-few n s (λ set. test (true ∷ set)))

-- sets of one member more, that have it or not
sets-more : (n d : ℕ) (test : List Bool → Bool) → count_sets (suc n) test d
    ≡ count_sets n (λ set. test (false ∷ set)) d + later 1 (count_sets n (λ set. test (true ∷ set))) d
unfolding count_sets
sets-more n zero test = omega arith
sets-more n (suc d) test = grind (arith, nat_tests)

pub sets-step : (n a s : ℕ) (test : List Bool → Bool) → later a (count_sets (suc n) test) s
    ≡ later a (count_sets n (λ set. test (false ∷ set))) s + later (a + 1) (count_sets n (λ set. test (true ∷ set))) s
sets-step n a s test =
    let one : s - (a + 1) ≡ s - a - 1 = omega arith in
    grind (arith, nat_tests, sets-more n (s - a) test, ap (count_sets n (λ set. test (true ∷ set))) one)

-- ---- what choices are worth
-- a value that is at most c
choices-few : (levels : List (List ℕ)) (i c : ℕ) (value : ℕ → ℕ → ℕ) → ((p a : ℕ) → value p a ≤ c) → over_choices levels i value ≤ c * 2 ^ i
unfolding over_choices
choices-few levels zero c value few = omega (arith, few 0 0)
choices-few levels (suc i) c value few =
    let links : List ℕ = get_or levels i [] in
    let rest = choices-few levels i (2 * c) (step links value) (λ p a. omega (arith, few (link_at links p 0) a, few (link_at links p 1) (a + 1))) in
    let more : 2 ^ suc i ≡ 2 * 2 ^ i = omega arith in
    rw more (omega (arith, rest))

-- a choice is worth a part of what all are
pub later-part : (links counts : List ℕ) (k : ℕ) (choices : List Choices) (i : ℕ) (d : Choices) → i < length choices
    → worth (take i choices) (with_later links counts k ((get_or choices i d).size + 1 + k))
    + (get_or choices i d).count * slice_index counts (link_at links (get_or choices i d).row 1)
    ≤ worth choices (with_later links counts k ((get_or choices i d).size + 1 + k))
later-part links counts k choices i d lt =
    let s : ℕ = (get_or choices i d).size + 1 + k in
    let here : with_later links counts k s (get_or choices i d).row (get_or choices i d).size ≡ slice_index counts (link_at links (get_or choices i d).row 1) = grind (arith, nat_tests) in
    omega (arith, ap (λ (n : ℕ). (get_or choices i d).count * n) here, sum_by_more_le (λ (some : Choices). some.count * with_later links counts k s some.row some.size) choices i d lt)

-- the choice of no member
pub lead-root : (levels : List (List ℕ)) → 1 ≤ rows_at levels 0 → AreLeading levels 0 (record { size = 0; row = 0; count = 1 } ∷ [])
unfolding over_choices
lead-root levels root = record {
  within = All-cons (IsWithin (rows_at levels 0) 0) (record { size = 0; row = 0; count = 1 }) [] (record { row = root; size = omega arith }) (All-nil (IsWithin (rows_at levels 0) 0));
  sums = λ value. omega (arith, sum_by-cons (λ (some : Choices). some.count * value some.row some.size) (record { size = 0; row = 0; count = 1 }) []);
}

-- two values of each row
pub worth-both : (choices : List Choices) (f g : ℕ → ℕ → ℕ) → worth choices (λ p a. f p a + g p a) ≡ worth choices f + worth choices g
worth-both [] f g = omega arith
worth-both (some ∷ rest) f g = simp sum_by-cons (omega (arith, worth-both rest f g))

-- ---- completed by fewer later members, and by one more
fewer-more : (links : List ℕ) (sizes : List (List ℕ)) (k s p a : ℕ)
    → with_fewer links sizes (k + 1) s p a ≡ with_fewer links sizes k s p a + with_later links (get_or sizes k []) k s p a
fewer-more links sizes k s p a = elim (cases_eq s (a + 1 + k)) [
  | inl same ↦
      let at : s - (a + 1) ≡ k = omega (arith, same) in
      grind (arith, nat_tests, same, ap (λ (j : ℕ). count_at sizes (link_at links p 1) j) at)
  | inr other ↦ grind (arith, nat_tests, other)
]

fewer-all : (links : List ℕ) (sizes : List (List ℕ)) (k s p a : ℕ) → (length sizes ≤ k) ⊎ (s ≤ k) → with_fewer links sizes k s p a ≡ with_member links sizes s p a
fewer-all links sizes k s p a all = elim (cases_lt s (a + 1 + k)) [
  | inl lt ↦ grind (arith, nat_tests, lt)
  | inr le ↦
      let past : get_or sizes (s - (a + 1)) [] ≡ [] = get_or_past sizes (s - (a + 1)) [] (elim all [ inl few ↦ omega (arith, few, le) | inr small ↦ absurd (omega (arith, small, le)) ]) in
      grind (arith, nat_tests, le, past)
]

worth-zero : (choices : List Choices) → worth choices (λ _ _. 0) ≡ 0
worth-zero [] = omega arith
worth-zero (some ∷ rest) = simp sum_by-cons (omega (arith, worth-zero rest))

pub worth-empty : (links : List ℕ) (choices : List Choices) (k s : ℕ) → worth choices (with_later links [] k s) ≡ 0
worth-empty links choices k s = (λ t. worth choices (λ p a. (let e : with_later links [] k s p a ≡ 0 = grind (arith, nat_tests) in e) t)) ∙ worth-zero choices

module _ (links : List ℕ) (sizes : List (List ℕ)) (choices : List Choices) (s : ℕ) where
  pub worth-none : worth choices (with_fewer links sizes 0 s) ≡ 0
  worth-none = (λ t. worth choices (λ p a. (let e : with_fewer links sizes 0 s p a ≡ 0 = grind (arith, nat_tests) in e) t)) ∙ worth-zero choices

  pub worth-more : (k : ℕ) → worth choices (with_fewer links sizes (k + 1) s)
      ≡ worth choices (with_fewer links sizes k s) + worth choices (with_later links (get_or sizes k []) k s)
  worth-more k = (λ t. worth choices (λ p a. fewer-more links sizes k s p a t)) ∙ worth-both choices (with_fewer links sizes k s) (with_later links (get_or sizes k []) k s)

  pub worth-all : (k : ℕ) → (length sizes ≤ k) ⊎ (s ≤ k) → worth choices (with_fewer links sizes k s) ≡ worth choices (with_member links sizes s)
  worth-all k all = (λ t. worth choices (λ p a. fewer-all links sizes k s p a all t))

  pub worth-part : (k : ℕ) → worth choices (with_fewer links sizes k s) ≤ worth choices (with_member links sizes s)
  worth-part k = sum_by-le-sum_by (λ (some : Choices). some.count * with_fewer links sizes k s some.row some.size) (λ (some : Choices). some.count * with_member links sizes s some.row some.size) choices
      (λ some. mul-le-mul (omega arith) (fewer-part some.row some.size))
    where
      fewer-part : (p a : ℕ) → with_fewer links sizes k s p a ≤ with_member links sizes s p a
      fewer-part p a = cond_both (ltb s (a + 1 + k)) (with_member links sizes s p a) 0 (λ n. n ≤ with_member links sizes s p a) (λ _. omega arith) (λ _. omega arith)

-- no size more
pub later-none : (f : ℕ → ℕ) (s : ℕ) → later 0 f s ≡ f s
later-none f s = grind (arith, nat_tests)

later-alike : (more : ℕ) (f g : ℕ → ℕ) (s : ℕ) → f (s - more) ≡ g (s - more) → later more f s ≡ later more g s
later-alike more f g s same = ap (λ (n : ℕ). cond (leb more s) n 0) same

-- the sets with member m
choices-sets : (levels : List (List ℕ)) (i j r m n s : ℕ) → i + j ≡ m → i + r ≡ n → i ≤ length levels
    → over_choices levels i (λ p a. later a (count_sets r (λ set. has j set && accepts (drop i levels) p set)) s)
    ≡ count_sets n (λ set. has m set && accepts levels 0 set) s
unfolding over_choices accepts
choices-sets levels zero j r m n s first second within =
    let e : j ≡ m = omega arith in let f : r ≡ n = omega arith in
    later-none (count_sets r (λ set. has j set && accepts levels 0 set)) s ∙ (λ i. count_sets (f i) (λ set. has (e i) set && accepts levels 0 set) s)
choices-sets levels (suc i) j r m n s first second within =
    let links : List ℕ = get_or levels i [] in
    let front : drop i levels ≡ links ∷ drop (suc i) levels = drop-cons levels i [] (omega arith) in
    (λ t. over_choices levels i (λ p a. sym (sets-step r a s (λ set. has (suc j) set && accepts (links ∷ drop (suc i) levels) p set)) t))
    ∙ (λ t. over_choices levels i (λ p a. later a (count_sets (suc r) (λ set. has (suc j) set && accepts (sym front t) p set)) s))
    ∙ choices-sets levels i (suc j) (suc r) m n s (omega arith) (omega arith) (omega arith)

-- the pairs of a choice and a set that completes the link with the member
with-sets : (links : List ℕ) (levels : List (List ℕ)) (r s p a : ℕ)
    → later (a + 1) (count_sets r (accepts levels (link_at links p 1))) s
    ≡ later a (count_sets (suc r) (λ set. has 0 set && accepts (links ∷ levels) p set)) s
unfolding accepts
with-sets links levels r s p a =
    let none : later a (count_sets r (λ set. false)) s ≡ 0 = grind (arith, nat_tests, sets-none r (s - a)) in
    omega (arith, sets-step r a s (λ set. has 0 set && accepts (links ∷ levels) p set), none)

-- ---- a level
pub as-many : (levels : List (Vec ℕ Global)) → length (lists levels) ≡ length levels
as-many levels = length-map levels (λ v. v.items)

-- counts of one size more
pub count-more : (sizes : List (Vec ℕ Global)) (counts : Vec ℕ Global) (k s : ℕ) → s < length sizes
    → count_at (lists (sizes ++ counts ∷ [])) k s ≡ count_at (lists sizes) k s
count-more sizes counts k s lt =
    ap (λ (ls : List (List ℕ)). count_at ls k s) (map-append (λ (v : Vec ℕ Global). v.items) sizes (counts ∷ []))
    ∙ ap (λ (l : List ℕ). get_or l k 0) (get_or_append_left (lists sizes) (counts.items ∷ []) [] s (omega (arith, lt, as-many sizes)))

pub count-last : (sizes : List (Vec ℕ Global)) (counts : Vec ℕ Global) (k s : ℕ) → length sizes ≡ s
    → count_at (lists (sizes ++ counts ∷ [])) k s ≡ get_or counts.items k 0
count-last sizes counts k s is =
    ap (λ (ls : List (List ℕ)). count_at ls k s) (map-append (λ (v : Vec ℕ Global). v.items) sizes (counts ∷ []))
    ∙ ap (λ (l : List ℕ). get_or l k 0) (get_or_push (lists sizes) counts.items [] s (omega (arith, is, as-many sizes)))

-- other counts of a size
pub count-here : (sizes : List (Vec ℕ Global)) (counts : Vec ℕ Global) (k i s : ℕ) → s ≡ i → i < length sizes
    → count_at (lists (set sizes i counts)) k s ≡ get_or counts.items k 0
count-here sizes counts k i s same lt =
    ap (λ (ls : List (List ℕ)). count_at ls k s) (map-set (λ (v : Vec ℕ Global). v.items) sizes i counts)
    ∙ ap (λ (l : List ℕ). get_or l k 0) (get_or-set_at (lists sizes) i s counts.items [] same (omega (arith, lt, as-many sizes)))

pub count-other : (sizes : List (Vec ℕ Global)) (counts : Vec ℕ Global) (k i s : ℕ) → s ≢ i
    → count_at (lists (set sizes i counts)) k s ≡ count_at (lists sizes) k s
count-other sizes counts k i s other =
    ap (λ (ls : List (List ℕ)). count_at ls k s) (map-set (λ (v : Vec ℕ Global). v.items) sizes i counts)
    ∙ ap (λ (l : List ℕ). get_or l k 0) (get_or-set_other (lists sizes) i s counts.items [] other)

pub count-past : (sizes : List (Vec ℕ Global)) (k s : ℕ) → length sizes ≤ s → count_at (lists sizes) k s ≡ 0
count-past sizes k s le = ap (λ (l : List ℕ). get_or l k 0) (get_or_past (lists sizes) s [] (omega (arith, le, as-many sizes)))

-- the links of level i
pub record IsLevel (levels : List (List ℕ)) (i : ℕ) (links : List ℕ) : Type 0 where
  pub within : i < length levels
  pub is : links ≡ get_or levels i []

pub level-at : (levels : List (Vec ℕ Global)) (i : ℕ) (links : Vec ℕ Global) → i < length levels → links ≡ get_or levels i links
    → IsLevel (lists levels) i links.items
level-at levels i links lt is = record {
  within = omega (arith, lt, as-many levels);
  is = ap (λ (v : Vec ℕ Global). v.items) is ∙ sym (get_or-map (λ v. v.items) levels i links [] lt);
}

module _ {levels : List (List ℕ)} {i : ℕ} {links : List ℕ} (graph : IsGraph levels) (h : IsLevel levels i links) where
  pub level-rows : length links / 2 ≡ rows_at levels i
  level-rows = ap (λ (l : List ℕ). length l / 2) (h.is ∙ get_or_default levels i [] (0 ∷ 0 ∷ 0 ∷ 0 ∷ []) h.within)

  pub level-small : (k : ℕ) → get_or links k 0 < rows_at levels (i + 1)
  level-small k = omega (arith, graph.linked i k h.within, ap (λ (l : List ℕ). get_or l k 0) h.is)

  abbrev left : ℕ
  left = length levels - (i + 1)

  abbrev rest : List (List ℕ)
  rest = drop (i + 1) levels

  one_level : suc left ≡ length levels - i
  one_level = omega (arith, h.within)

  front : links ∷ rest ≡ drop i levels
  front = let e : i + 1 ≡ suc i = omega arith in (λ t. h.is t ∷ drop (e t) levels) ∙ sym (drop-cons levels i [] h.within)

  -- ---- one member more
  module _ {choices : List Choices} (are : AreLeading levels i choices) where
    one_more : (value : ℕ → ℕ → ℕ) → over_choices levels i (step links value) ≡ over_choices levels (i + 1) value
    unfolding over_choices
    one_more value = let e : i + 1 ≡ suc i = omega arith in (λ t. over_choices levels i (step (h.is t) value)) ∙ ap (λ (k : ℕ). over_choices levels k value) (sym e)

    lead-step : (value : ℕ → ℕ → ℕ) → worth choices (step links value) ≡ over_choices levels (i + 1) value
    lead-step value = are.sums (step links value) ∙ one_more value

    -- where they lead without the member, and with it
    pub lead-next : (value : ℕ → ℕ → ℕ) → worth choices (λ p a. value (link_at links p 0) (a + 0)) + worth choices (λ p a. value (link_at links p 1) (a + 1))
        ≡ over_choices levels (i + 1) value
    lead-next value =
        let none : (a : ℕ) → a + 0 ≡ a = λ a. omega arith in
        (λ t. worth choices (λ p a. value (link_at links p 0) (none a t)) + worth choices (λ p a. value (link_at links p 1) (a + 1)))
        ∙ sym (worth-both choices (λ p a. value (link_at links p 0) a) (λ p a. value (link_at links p 1) (a + 1))) ∙ lead-step value

    pub lead-few : worth choices (λ _ _. 1) ≤ 2 ^ 40
    lead-few =
        let up : 2 ^ i ≤ 2 ^ 40 = pow_mono {j = 40} (omega (arith, h.within, graph.few)) in
        omega (arith, are.sums (λ _ _. 1), choices-few levels i 1 (λ _ _. 1) (λ p a. omega arith), up)

    pub lead-within : All (IsWithin (length links / 2) 40) choices
    lead-within k d lt = record { row = omega (arith, level-rows, (are.within k d lt).row); size = omega (arith, h.within, graph.few, (are.within k d lt).size) }

    pub with-sum : {sizes : List (List ℕ)} → AreCompleting levels (i + 1) sizes → (s : ℕ)
        → worth choices (with_member links sizes s) ≡ count_sets (length levels) (λ set. has i set && accepts levels 0 set) s
    with-sum {sizes = sizes} complete s =
        are.sums _
        ∙ (λ t. over_choices levels i (λ p a. later-alike (a + 1) (count_at sizes (link_at links p 1)) (count_sets left (accepts rest (link_at links p 1))) s
        (complete.each (link_at links p 1) (s - (a + 1)) (level-small (2 * p + 1))) t))
        ∙ (λ t. over_choices levels i (λ p a. with-sets links rest left s p a t))
        ∙ (λ t. over_choices levels i (λ p a. later a (count_sets (suc left) (λ set. has 0 set && accepts (front t) p set)) s))
        ∙ choices-sets levels i 0 (suc left) i (length levels) s (omega arith) (omega (arith, h.within)) (omega (arith, h.within))

    pub with-fits : {sizes : List (List ℕ)} → AreCompleting levels (i + 1) sizes → (k s : ℕ)
        → worth choices (with_fewer links sizes k s) + worth choices (with_later links (get_or sizes k []) k s) < 2 ^ 64
    with-fits {sizes = sizes} complete k s =
        let up : 2 ^ length levels ≤ 2 ^ 40 = pow_mono {j = 40} graph.few in omega (
          arith,
          worth-more links sizes choices s k,
          worth-part links sizes choices s (k + 1),
          with-sum complete s,
          up,
          sets-few (length levels) s (λ set. has i set && accepts levels 0 set),
        )

  -- ---- one member before
  pub complete-next : (sizes : List (List ℕ)) (p s : ℕ) → ((k t : ℕ) → t ≤ s → k < rows_at levels (i + 1) → count_at sizes k t ≡ count_sets left (accepts rest k) t)
      → later 0 (count_at sizes (link_at links p 0)) s + later 1 (count_at sizes (link_at links p 1)) s
      ≡ count_sets (length levels - i) (accepts (drop i levels) p) s
  unfolding accepts
  complete-next sizes p s each =
      (λ t. later-alike 0 (count_at sizes (link_at links p 0)) (count_sets left (accepts rest (link_at links p 0))) s (each (link_at links p 0) (s - 0) (omega arith) (level-small (2 * p + 0))) t
      + later-alike 1 (count_at sizes (link_at links p 1)) (count_sets left (accepts rest (link_at links p 1))) s (each (link_at links p 1) (s - 1) (omega arith) (level-small (2 * p + 1))) t)
      ∙ sym (sets-step left 0 s (accepts (links ∷ rest) p)) ∙ later-none (count_sets (suc left) (accepts (links ∷ rest) p)) s ∙ (λ t. count_sets (one_level t) (accepts (front t) p) s)

  pub complete-fits : (p s : ℕ) → count_sets (length levels - i) (accepts (drop i levels) p) s < 2 ^ 64
  complete-fits p s =
      let up : 2 ^ (length levels - i) ≤ 2 ^ 40 = pow_mono {j = 40} (omega (arith, graph.few)) in
      omega (arith, up, sets-few (length levels - i) s (accepts (drop i levels) p))

  -- no set has more members than there are
  pub complete-past : (sizes : List (Vec ℕ Global)) → AreCompleting levels (i + 1) (lists sizes) → (p s : ℕ) → length sizes < s
      → count_sets (length levels - i) (accepts (drop i levels) p) s ≡ 0
  complete-past sizes are p s lt = grind (
    arith,
    nat_tests,
    complete-next (lists sizes) p s (λ k t le lt. are.each k t lt),
    count-past sizes (link_at links p 0) s (omega arith),
    count-past sizes (link_at links p 1) (s - 1) (omega arith),
    later-none (count_at (lists sizes) (link_at links p 0)) s,
  )

last-counts : (k s : ℕ) → k < 2 → count_at ((0 ∷ 1 ∷ []) ∷ []) k s ≡ count_sets 0 (accepts [] k) s
unfolding accepts count_sets
last-counts zero zero lt = refl
last-counts zero (suc s) lt = refl
last-counts (suc zero) zero lt = refl
last-counts (suc zero) (suc s) lt = refl
last-counts (suc (suc k)) s lt = absurd (omega arith)

pub complete-last : (levels : List (Vec ℕ Global)) → AreCompleting (lists levels) (length levels) ((0 ∷ 1 ∷ []) ∷ [])
complete-last levels = record {
  each = λ k s lt.
      let long = as-many levels in
      let none : length (lists levels) - length levels ≡ 0 = omega arith in
      let gone : drop (length levels) (lists levels) ≡ [] = drop_all _ (lists levels) (omega arith) in
      let past = get_or_past (lists levels) (length levels) (0 ∷ 0 ∷ 0 ∷ 0 ∷ []) (omega arith) in
      rw (none, gone) (last-counts k s (rw past at lt));
}

pub ruleset completing = (nat_tests, complete-last, lists)

pub ruleset counting = (nat_tests, sum_by_more_le, later-none, with_member, lists, link_at, get_or)

pub ruleset leading = (nat_tests, lead-within, level-at)
