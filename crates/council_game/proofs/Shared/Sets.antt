-- Coalitions as sets of members.
use Rattle.council_game.proofs.Imports.{◌≡◌, ◌∙◌, ◌==◌, ℕ, zero, suc, ◌+◌, ◌-◌, ◌*◌, ◌^◌, ◌<◌, ◌≤◌, Bool, true, false, not, cond}
use Rattle.council_game.proofs.Imports.{List, [], ◌∷◌, length, filter, sym, ap, refl, arith, sum_by, sum_by-cons, range_with_len}
use Rattle.council_game.proofs.Imports.{cases_eq, nat_tests, get_or, get_or-map}
use Rattle.council_game.proofs.Imports.{GameView, IsGame, votes_of, RuleView, member_at, members_by_rank, rule_by_rank, has, without}
use Rattle.council_game.proofs.Imports.{weight, wins, minimal}
use Rattle.std.proofs.Common.{◌/◌, ◌%◌, ◌&&◌}
use Rattle.std.proofs.lemmas.Nat.Bits.{bit_at_cat_low, bit_at_cat_high, bit_at_above}
use Rattle.std.proofs.lemmas.List.Sums.{length-filter}
use native.Mathlib.Numerals.{unary_clauses}
use Rattle.council_game.proofs.Shared.Digits.{has-kept, has-gone, same-places}
use Rattle.council_game.proofs.Shared.Sums.{sum-swap, filter-both, sum-zero}
use Rattle.council_game.specs.{Laws.HasEachSet, Laws.NeedsEachMemberOf, Laws.ProperSubsetsOfLose, Members.HaveSameMembers, Members.IsSubsetOf, Members.contains, Members.size_of, Votes.down}
use Rattle.council_game.proofs.Shared.{Making.ranks-are, Rankings.length-weights_by_rank}
use Rattle.council_game.proofs.Shared.{RankPlaces.game-rank_places, RankPlaces.by-member, Meanings.needs-each-member, Rankings.by_rank-at}
use Rattle.council_game.proofs.Shared.{Games.votes-are, Subsets.subsets-lose}
use Rattle.council_game.proofs.Shared.{Rankings.length-by_rank}

-- ---- coalitions of one place more
pub first-in : (n c : ℕ) → c < 2 ^ n → has (suc n) 0 (2 ^ n + c) ≡ true
unfolding has
first-in n c lt = grind (arith, nat_tests, bit_at_cat_high 1 n c n lt (omega arith))

pub first-out : (n c : ℕ) → c < 2 ^ n → has (suc n) 0 c ≡ false
unfolding has
first-out n c lt = grind (arith, nat_tests, bit_at_above c n n lt (omega arith))

pub rest-in : (n p c : ℕ) → p < n → has (suc n) (suc p) (2 ^ n + c) ≡ has n p c
unfolding has
rest-in n p c lt = grind (arith, nat_tests, bit_at_cat_low 1 n c (n - 1 - p) (omega arith))

pub rest-out : (n p c : ℕ) → has (suc n) (suc p) c ≡ has n p c
unfolding has
rest-out n p c = let place : suc n - 1 - suc p ≡ n - 1 - p = omega arith in ap (λ (k : ℕ). c / 2 ^ k % 2 == 1) place

pub double-pow : (n : ℕ) → 2 ^ suc n ≡ 2 ^ n + 2 ^ n
double-pow n = simp unary_clauses (omega arith)

-- ---- the coalition of the places that pass a test
pub mask_of : (ℕ → Bool) → ℕ → ℕ
mask_of test zero = 0
mask_of test (suc n) = cond (test 0) (2 ^ n + mask_of (λ p. test (suc p)) n) (mask_of (λ p. test (suc p)) n)

pub mask-below : (test : ℕ → Bool) (n : ℕ) → mask_of test n < 2 ^ n
unfolding mask_of
mask-below test zero = omega arith
mask-below test (suc n) = grind (arith, mask-below (λ p. test (suc p)) n, double-pow, nat_tests)

pub mask-has : (test : ℕ → Bool) (n p : ℕ) → p < n → has n p (mask_of test n) ≡ test p
unfolding mask_of
mask-has test zero p lt = absurd (omega arith)
mask-has test (suc n) zero lt = grind (arith, nat_tests, first-in, first-out, mask-below (λ p. test (suc p)) n)
mask-has test (suc n) (suc p) lt = grind (arith, nat_tests, rest-in, rest-out, mask-has (λ p. test (suc p)) n p (omega (arith, lt)))

-- ---- sums
pub sum-range : (f g : ℕ → ℕ) (a n : ℕ) → ((j : ℕ) → a ≤ j → j < a + n → f j ≡ g j)
    → sum_by f (range_with_len a n) ≡ sum_by g (range_with_len a n)
sum-range f g a zero h = refl
sum-range f g a (suc n) h =
    simp sum_by-cons (omega (arith, h a (omega arith) (omega arith), sum-range f g (a + 1) n (λ j le lt. h j (omega arith) (omega arith))))

sum-range-le : (f g : ℕ → ℕ) (a n : ℕ) → ((j : ℕ) → a ≤ j → j < a + n → f j ≤ g j)
    → sum_by f (range_with_len a n) ≤ sum_by g (range_with_len a n)
sum-range-le f g a zero h = omega arith
sum-range-le f g a (suc n) h =
    simp sum_by-cons (omega (arith, h a (omega arith) (omega arith), sum-range-le f g (a + 1) n (λ j le lt. h j (omega arith) (omega arith))))

-- what passes a test, each with its weight
pub sum-filter : (w : ℕ → ℕ) (p : ℕ → Bool) (xs : List ℕ) → sum_by w (filter p xs) ≡ sum_by (λ x. cond (p x) 1 0 * w x) xs
sum-filter w p [] = refl
sum-filter w p (x ∷ xs) =
    grind (arith, nat_tests, sum_by-cons (λ y. cond (p y) 1 0 * w y) x xs, sum_by-cons w x (filter p xs), sum-filter w p xs)

pub weight-sum : (ws : List ℕ) (n c : ℕ) → length ws ≡ n → weight ws c ≡ sum_by (λ p. cond (has n p c) 1 0 * get_or ws p 0) (range_with_len 0 n)
unfolding weight
weight-sum ws n c long = grind (arith, nat_tests, sum-filter)

-- sums over all coalitions
pub sum-down : (f h : ℕ → ℕ) (n : ℕ) → ((c : ℕ) → c < n → f c ≡ h c) → sum_by f (down n) ≡ sum_by h (down n)
unfolding down
sum-down f h zero same = refl
sum-down f h (suc n) same = grind (arith, sum-down f h n (λ c lt. same c (omega (arith, lt))), sum_by-cons)

pub sum-none : (f : ℕ → ℕ) (n : ℕ) → ((x : ℕ) → x < n → f x ≡ 0) → sum_by f (down n) ≡ 0
sum-none f n none = sum-down f (λ x. 0) n none ∙ sum-zero (down n)

-- only one number counts
pub sum-one : (f : ℕ → ℕ) (u n : ℕ) → u < n → ((x : ℕ) → x < n → (x ≡ u → ⊥) → f x ≡ 0) → sum_by f (down n) ≡ f u
unfolding down
sum-one f u zero lt none = absurd (omega arith)
sum-one f u (suc n) lt none = grind (arith, cases_eq n u, sum-none f n, sum_by-cons f n (down n), sum-one f u n)

pub count-both : (m t : ℕ → Bool) (xs : List ℕ) → length (filter t (filter m xs)) ≡ sum_by (λ c. cond (m c && t c) 1 0) xs
count-both m t xs = ap (λ (l : List ℕ). length l) (filter-both m t xs) ∙ length-filter (λ c. m c && t c) xs

-- a sum over numbers, each taken to another and back
pub sum-moved : (f : ℕ → ℕ) (there back : ℕ → ℕ) (n : ℕ) → ((c : ℕ) → c < n → (there c < n) × (back (there c) ≡ c))
    → ((d : ℕ) → d < n → (back d < n) × (there (back d) ≡ d)) → sum_by (λ c. f (there c)) (down n) ≡ sum_by f (down n)
sum-moved f there back n go come =
    let pairs : ℕ → ℕ → ℕ = λ c d. cond (d == there c) (f d) 0 in
    sum-down (λ c. f (there c)) (λ c. sum_by (pairs c) (down n)) n
    (λ c lt. sym (sum-one (pairs c) (there c) n (go c lt).0 (λ d ld other. grind (arith, nat_tests)) ∙ grind (arith, nat_tests)))
    ∙ sum-swap pairs (down n) (down n)
    ∙ sum-down (λ d. sum_by (λ c. pairs c d) (down n)) f n (λ d ld.
    sum-one (λ c. pairs c d) (back d) n (come d ld).0 (λ c lc other. grind (arith, nat_tests, go c lc)) ∙ grind (arith, nat_tests, come d ld))

-- ---- the coalition of a set of members
module _ (g : GameView) (is : IsGame g) where
  pub coalition_of_set : (ℕ → Bool) → ℕ
  coalition_of_set set = mask_of (λ p. set (member_at g.ranks p)) (length g.names)

  pub set-contains : (set : ℕ → Bool) (i : ℕ) → i < length g.names → contains g i (coalition_of_set set) ≡ set i
  unfolding coalition_of_set
  set-contains set i lt =
      let are = ranks-are g is in
      mask-has (λ p. set (member_at g.ranks p)) (length g.names) (get_or g.ranks i 0) (are.place_below i lt) ∙ ap set (are.member_back i lt)

  pub set-below : (set : ℕ → Bool) → coalition_of_set set < 2 ^ length g.names
  unfolding coalition_of_set
  set-below set = mask-below (λ p. set (member_at g.ranks p)) (length g.names)

  pub set-one : (c d : ℕ) → c < 2 ^ length g.names → d < 2 ^ length g.names → HaveSameMembers g g c d → c ≡ d
  set-one c d lc ld same =
      let are = ranks-are g is in
      same-places (length g.names) c d lc ld (λ p lt.
      ap (λ (q : ℕ). has (length g.names) q c) (sym (are.place_back p lt)) ∙ same (member_at g.ranks p) (are.member_below p lt)
      ∙ ap (λ (q : ℕ). has (length g.names) q d) (are.place_back p lt))

  pub each-set : HasEachSet g
  each-set = record { coalition = coalition_of_set; below = set-below; members = set-contains; one = set-one }

  -- what a coalition weighs, member by member
  pub weight-members : (r : RuleView) (c : ℕ) → weight (rule_by_rank g.ranks r).weights c
      ≡ sum_by (λ i. cond (contains g i c) 1 0 * get_or r.weights i 0) (range_with_len 0 (length g.names))
  weight-members r c =
      let are = ranks-are g is in
      let ws : List ℕ = (rule_by_rank g.ranks r).weights in
      weight-sum ws (length g.names) c (length-weights_by_rank g.ranks r.weights ∙ are.count)
      ∙ by-member (length g.names) g.ranks are.count (game-rank_places g is) (λ p. cond (has (length g.names) p c) 1 0 * get_or ws p 0)
      ∙ sum-range _ _ 0 (length g.names) (λ i _ lt.
      let below = are.place_below i (omega (arith, lt)) in
      let at = get_or-map (λ m. get_or r.weights m 0) (members_by_rank g.ranks) (get_or g.ranks i 0) 0 0
      (let long = length-by_rank g.ranks in omega (arith, long, are.count, below)) in
      let who = by_rank-at g.ranks (get_or g.ranks i 0) 0 (omega (arith, are.count, below)) in
      ap (λ (w : ℕ). cond (contains g i c) 1 0 * w) (at ∙ ap (λ (m : ℕ). get_or r.weights m 0) (who ∙ are.member_back i (omega (arith, lt)))))

  pub size-members : (c : ℕ) → size_of g c ≡ sum_by (λ i. cond (contains g i c) 1 0) (range_with_len 0 (length g.names))
  size-members c =
      let are = ranks-are g is in
      length-filter (λ p. has (length g.names) p c) (range_with_len 0 (length g.names))
      ∙ by-member (length g.names) g.ranks are.count (game-rank_places g is) (λ p. cond (has (length g.names) p c) 1 0)

  -- a coalition without one of its members
  pub without-contains : (c i j : ℕ) → i < length g.names → j < length g.names → contains g i c ≡ true
      → contains g j (without (length g.names) (get_or g.ranks i 0) c) ≡ (contains g j c && not (j == i))
  without-contains c i j li lj inside =
      let are = ranks-are g is in
      let kept = has-kept (length g.names) (get_or g.ranks j 0) (get_or g.ranks i 0) c (are.place_below j lj) (are.place_below i li) in
      grind (arith, nat_tests, cases_eq j i, has-gone (length g.names) (get_or g.ranks i 0) c, kept, are.member_back j lj, are.member_back i li)

  -- minimal coalitions, member by member
  pub needs-members : (c : ℕ) → minimal (votes_of g) c ≡ true → (wins (votes_of g) c ≡ true) × ((i : ℕ) → i < length g.names
      → contains g i c ≡ true → wins (votes_of g) (without (length g.names) (get_or g.ranks i 0) c) ≡ false)
  needs-members c min =
      let both = (needs-each-member (votes_of g) c).0 min in
      (both.0, λ i lt inside. both.1 (get_or g.ranks i 0) ((ranks-are g is).place_below i lt) inside)

  pub from-members : (c : ℕ) → wins (votes_of g) c ≡ true → ((i : ℕ) → i < length g.names
      → contains g i c ≡ true → wins (votes_of g) (without (length g.names) (get_or g.ranks i 0) c) ≡ false)
      → minimal (votes_of g) c ≡ true
  from-members c won each =
      let are = ranks-are g is in
      (needs-each-member (votes_of g) c).1 (
        won,
        λ p lt inside.
            ap (λ (q : ℕ). wins (votes_of g) (without (length g.names) q c)) (sym (are.place_back p lt))
            ∙ each (member_at g.ranks p) (are.member_below p lt) (ap (λ (q : ℕ). has (length g.names) q c) (are.place_back p lt) ∙ inside),
      )

  pub needs-each-of : NeedsEachMemberOf g
  needs-each-of c = (needs-members c, λ both. from-members c both.0 both.1)

  -- a subset by its members is one by its places
  pub places-within : (a c : ℕ) → IsSubsetOf g a c → (p : ℕ) → p < length g.names → has (length g.names) p a ≡ true
      → has (length g.names) p c ≡ true
  places-within a c sub p lt inside =
      let are = ranks-are g is in
      ap (λ (q : ℕ). has (length g.names) q c) (sym (are.place_back p lt)) ∙ sub (member_at g.ranks p) (are.member_below p lt)
      (ap (λ (q : ℕ). has (length g.names) q a) (are.place_back p lt) ∙ inside)

  pub subsets-of-lose : ProperSubsetsOfLose g
  subsets-of-lose a c la lc min sub other = subsets-lose (votes_of g) (votes-are g is) a c la lc min (places-within a c sub, other)

  pub subset-size : (a c : ℕ) → IsSubsetOf g a c → size_of g a ≤ size_of g c
  subset-size a c sub =
      let least = sum-range-le (λ i. cond (contains g i a) 1 0) (λ i. cond (contains g i c) 1 0) 0 (length g.names)
      (λ i _ lt. let inside = sub i (omega (arith, lt)) in grind (arith, nat_tests, inside)) in
      omega (arith, least, size-members a, size-members c)
