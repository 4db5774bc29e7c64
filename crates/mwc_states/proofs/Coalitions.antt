-- The coalitions of a game that are counted are the sets that complete its quotas; how many of them
-- pass a test.
use Rattle.mwc_states.proofs.Imports.{winning_coalitions, What, Minimal, Winning, weigh, meets, without_one, count_sets, completes, accepts}
use Rattle.mwc_states.proofs.Imports.{◌≡◌, ◌∙◌, ℕ, zero, suc, ◌<◌, ◌≤◌, Bool, true, false, not, ◌&&◌, ◌==◌, List, [], ◌∷◌, length, get_or}
use Rattle.mwc_states.proofs.Imports.{get_or-set_other, ◌^◌, and_parts, not-true, cases_lt, nat_tests, get_or_past, list_all-map, size}
use Rattle.mwc_states.proofs.Imports.{down, weight, votes_of, minimal_coalitions, set, filter, refl, sym, ap, arith, inl, inr, leb}
use Rattle.mwc_states.proofs.Imports.{length-set, get_or-set_same, AreRowsOf, has, cases_eq}
use Rattle.std.proofs.lemmas.List.FromFn.{fill_by_all, get_or-map-range_with_len, length-map-range_with_len}
use Rattle.std.proofs.lemmas.Bool.{and_from, not_from_false}
use Rattle.council_game.specs.Votes.{RuleView, rule_at, Votes, IsVotes, meets_quota, wins, minimal}
use Rattle.council_game.specs.Ways.{has_rule}
use Rattle.council_game.proofs.Shared.Ways.{each-passes, has-own, way-is, way-rule}
use Rattle.mwc_states.proofs.Imports.{ByWays, cond, fits, misses_all, needs_each, take, list_all}
use Rattle.mwc_states.specs.Inner.States.{fits_any}
use Rattle.std.specs.List.{list_any}
use Rattle.std.proofs.Common.{le-leb, leb-true}
use Rattle.std.proofs.{Math.Bool.and-true, Math.Bool.not-not, Math.Seq.take-length, Math.Seq.drop-length, lemmas.Bool.cases_Bool, lemmas.List.Sums.list_all-from_AllPass}
use Rattle.mwc_states.specs.Inner.{Games.AreNeedsOf, Games.counted_coalitions, Games.is_counted, Links.AreSizesOf, Tables.state_of}
use Rattle.council_game.specs.Coalitions.{without}
use Rattle.council_game.proofs.Shared.{Digits.has-kept, Digits.has-gone, Sums.filter-both}
use Rattle.council_game.proofs.Shared.{Lists.all-at, Lists.all-of, Meanings.needs-each-member, WinningByPlaces.rule-is}
use Rattle.council_game.specs.Game.{GameView, IsGame, AreNonemptyCoalitions}
use Rattle.power_index.specs.Tables.{AreSizeCounts}
use Rattle.power_index.proofs.Shared.Minimal.{minimal-are-coalitions, minimal-few}
use Rattle.power_index.proofs.Shared.Winning.{winning-are-coalitions, winning-few}
use Rattle.mwc_states.proofs.Leaving.{meets-some}
use Rattle.mwc_states.proofs.Masks.{set_of, count-coalitions, weigh-set}
use Rattle.std.specs.{Cmp.both_ways as same_test}

-- ---- a set without one of its members
each-less : (f : List Bool → Bool) (xs : List Bool) → list_all f (without_one xs) ≡ true
    → (p : ℕ) → p < length xs → get_or xs p false ≡ true → f (set xs p false) ≡ true
unfolding without_one
each-less f [] all p lt inside = absurd (omega arith)
each-less f (true ∷ xs) all zero lt inside = (and_parts _ _ all).0
each-less f (true ∷ xs) all (suc p) lt inside =
    each-less (λ less. f (true ∷ less)) xs (sym (list_all-map f (λ less. true ∷ less) (without_one xs)) ∙ (and_parts _ _ all).1) p (omega arith) inside
each-less f (false ∷ xs) all zero lt inside = cc
each-less f (false ∷ xs) all (suc p) lt inside =
    each-less (λ less. f (false ∷ less)) xs (sym (list_all-map f (λ less. false ∷ less) (without_one xs)) ∙ all) p (omega arith) inside

all-less : (f : List Bool → Bool) (xs : List Bool) → ((p : ℕ) → p < length xs → get_or xs p false ≡ true → f (set xs p false) ≡ true)
    → list_all f (without_one xs) ≡ true
unfolding without_one
all-less f [] each = refl
all-less f (true ∷ xs) each =
    and_from _ _ (each 0 (omega arith) refl)
    (list_all-map f (λ less. true ∷ less) (without_one xs) ∙ all-less (λ less. f (true ∷ less)) xs (λ p lt inside. each (suc p) (omega arith) inside))
all-less f (false ∷ xs) each =
    list_all-map f (λ less. false ∷ less) (without_one xs) ∙ all-less (λ less. f (false ∷ less)) xs (λ p lt inside. each (suc p) (omega arith) inside)

pub set-at : (n c p : ℕ) → p < n → get_or (set_of n c) p false ≡ has n p c
set-at n c p lt = get_or-map-range_with_len (λ q. has n q c) 0 n p p false lt (omega arith)

long-set : (n c : ℕ) → length (set_of n c) ≡ n
long-set n c = length-map-range_with_len (λ q. has n q c) 0 n

set-less : (n c p : ℕ) → p < n → has n p c ≡ true → set (set_of n c) p false ≡ set_of n (without n p c)
set-less n c p lt inside =
    fill_by_all (λ q. has n q (without n p c)) (set (set_of n c) p false) n false (length-set (set_of n c) p false ∙ long-set n c)
    (λ q below. grind (arith, nat_tests, cases_eq q p, get_or-set_same, get_or-set_other, set-at n c q below, has-gone, has-kept, long-set n c))

-- ---- who wins meets the quotas of some way
-- some element passes just if not all of their images fail
any-not-all : (p q : List ℕ → Bool) (xs ys : List (List ℕ)) → length xs ≡ length ys → ((k : ℕ) → k < length ys → q (get_or xs k []) ≡ p (get_or ys k []))
    → list_any p ys ≡ not (list_all (λ x. not (q x)) xs)
any-not-all p q [] [] long same = refl
any-not-all p q [] (y ∷ ys) long same = absurd (omega (arith, long))
any-not-all p q (x ∷ xs) [] long same = absurd (omega (arith, long))
any-not-all p q (x ∷ xs) (y ∷ ys) long same =
    grind (arith, nat_tests, same 0 (omega arith), any-not-all p q xs ys (omega (arith, long)) (λ k lt. same (suc k) (omega (arith, lt))))

fits-one : (members : List (List ℕ)) (need : List ℕ) (set : List Bool) → fits members need set ≡ fits_any members (need ∷ []) set
fits-one members need set =
    let each : (less : List Bool) → not (meets (weigh members less) need) ≡ misses_all (weigh members less) (need ∷ []) = λ less. sym (and-true _) in
    let all : needs_each members set need ≡ list_all (λ less. misses_all (weigh members less) (need ∷ [])) (without_one set) =
    λ i. list_all (λ less. each less i) (without_one set) in
    grind (arith, nat_tests, all)

module _ (v : Votes) (members : List (List ℕ)) (needs : List (List ℕ)) (game : IsVotes v) (rows : AreRowsOf v.rules members v.members)
    (are : AreNeedsOf v needs (length v.ways)) where
  abbrev n : ℕ
  n = v.members

  way-meets : (c k : ℕ) → k < length v.ways
      → meets (weigh members (set_of n c)) (get_or needs k []) ≡ list_all (λ r. meets_quota c (rule_at v.rules r)) (get_or v.ways k [])
  unfolding meets
  way-meets c k lt =
      let way : List ℕ = get_or v.ways k [] in
      let need : List ℕ = get_or needs k [] in
      let own : (r : ℕ) → get_or need r 0 ≡ cond (has_rule way r) (rule_at v.rules r).quota 0 = are.each k lt in
      let below = (way-rule (length v.rules) way (way-is (length v.rules) v.ways k [] game.ways lt)).1 in
      let w : ℕ → ℕ = weigh members (set_of n c) in
      let weighs : (r : ℕ) → r < length v.rules → w r ≡ weight (rule_at v.rules r).weights c =
      λ r under. weigh-set members (rule_at v.rules r).weights r n c rows.long (rule-is v r game under).full (λ p lp. rows.weights p r lp) in
      let t : ℕ → Bool = λ r. leb (get_or need r 0) (w r) in
      same_test _ _
      (λ all. list_all-from_AllPass (λ r. meets_quota c (rule_at v.rules r)) way (λ j d at.
      let under = below j d at in
      let has = has-own way j d at in
      let here = all-at t 4 (get_or way j d) (omega (arith, under, game.few_rules)) all in
      le-leb _ _ (let le = leb-true _ _ here in
      omega (arith, le, own (get_or way j d) ∙ ap {B = ℕ} (λ b. cond b (rule_at v.rules (get_or way j d)).quota 0) has, weighs (get_or way j d) under))))
      (λ all. all-of t 4 (λ r under4. elim (cases_Bool (has_rule way r)) [
        | inl inside ↦ elim (cases_lt r (length v.rules)) [
          | inl under ↦ le-leb _ _ (let le = leb-true _ _ (each-passes (λ r. meets_quota c (rule_at v.rules r)) way r all inside) in
              omega (arith, le, own r ∙ ap {B = ℕ} (λ b. cond b (rule_at v.rules r).quota 0) inside, weighs r under))
          | inr past ↦ le-leb _ _ (omega (arith, own r ∙ ap {B = ℕ} (λ b. cond b (rule_at v.rules r).quota 0) inside, ap (λ (q : RuleView). q.quota) (get_or_past v.rules r (record { quota = 0; weights = [] }) past)))
        ]
        | inr outside ↦ le-leb _ _ (omega (arith, own r ∙ ap {B = ℕ} (λ b. cond b (rule_at v.rules r).quota 0) outside))
      ]))

  wins-any : (c : ℕ) → wins v c ≡ not (misses_all (weigh members (set_of n c)) needs)
  unfolding wins
  wins-any c = any-not-all (list_all (λ r. meets_quota c (rule_at v.rules r))) (meets (weigh members (set_of n c))) needs v.ways are.long (way-meets c)

  minimal-any : (c : ℕ) → minimal v c ≡ fits_any members needs (set_of n c)
  minimal-any c =
      let f : List Bool → Bool = λ less. misses_all (weigh members less) needs in
      let law = needs-each-member v c in
      let less : (p : ℕ) → p < n → has n p c ≡ true → f (set (set_of n c) p false) ≡ not (wins v (without n p c)) =
      λ p lt inside. ap f (set-less n c p lt inside) ∙ sym (not-not _) ∙ ap not (sym (wins-any (without n p c))) in
      same_test _ _
      (λ min.
      let parts = law.0 min in
      and_from _ _ (sym (wins-any c) ∙ parts.0) (all-less f (set_of n c) (λ p lt inside.
      (let below : p < n = omega (arith, lt, long-set n c) in
      let here : has n p c ≡ true = sym (set-at n c p below) ∙ inside in
      less p below here ∙ not_from_false _ (parts.1 p below here)))))
      (λ done.
      let parts = and_parts _ _ done in
      law.1 (
        wins-any c ∙ parts.0,
        λ p lt inside. not-true _ (sym (less p lt inside)
            ∙ each-less f (set_of n c) parts.1 p (omega (arith, lt, long-set n c)) (set-at n c p lt ∙ inside)),
      ))

  counted-completes : (what : What) (c : ℕ) → (what ≡ Minimal → length v.ways ≡ 1) → is_counted what v c ≡ completes what members (state_of what needs) (set_of n c)
  unfolding completes
  counted-completes Minimal c one = minimal-any c ∙ only needs (are.long ∙ one refl)
    where
      only : (needs : List (List ℕ)) → length needs ≡ 1 → fits_any members needs (set_of n c) ≡ completes Minimal members needs (set_of n c)
      only [] one = absurd (omega (arith, one))
      only (need ∷ []) one = sym (fits-one members need (set_of n c)) ∙ sym (and-true _)
      only (need ∷ other ∷ rest) one = absurd (omega (arith, one))
  counted-completes ByWays c one =
      minimal-any c ∙ (λ i. fits_any members (sym (take-length needs) i) (set_of n c)) ∙ sym (and-true _)
      ∙ (λ i. fits_any members (take (length needs) needs) (set_of n c) && misses_all (weigh members (set_of n c)) (sym (drop-length needs) i))
  counted-completes Winning c one = wins-any c ∙ sym (meets-some members needs (set_of n c))

  -- how many of the counted coalitions pass a test, from how many sets that a graph accepts do
  pub sizes-are : (what : What) (one : what ≡ Minimal → length v.ways ≡ 1) (levels : List (List ℕ)) (test : List Bool → Bool) (p : ℕ → Bool) (sizes : List ℕ) → length levels ≡ n
      → ((xs : List Bool) → length xs ≡ n → accepts levels 0 xs ≡ completes what members (state_of what needs) xs)
      → ((c : ℕ) → test (set_of n c) ≡ p c) → AreSizesOf levels test sizes → AreSizeCounts n p (counted_coalitions what v) sizes
  sizes-are what one levels test p sizes long same tests are = record {
    long = are.long;
    each = λ s small.
        let test_of : List Bool → Bool = λ xs. test xs && accepts levels 0 xs in
        let both : (c : ℕ) → (test_of (set_of n c) && (size n c == s)) ≡ (is_counted what v c && (p c && (size n c == s))) =
        λ c. grind (arith, nat_tests, tests c, same (set_of n c) (long-set n c), counted-completes what c one) in
        are.each s small ∙ ap (λ (k : ℕ). count_sets k test_of s) long ∙ count-coalitions n test_of s
        ∙ (λ i. length (filter (λ c. both c i) (down (2 ^ n))))
        ∙ ap (λ (l : List ℕ). length l) (sym (filter-both (is_counted what v) (λ c. p c && (size n c == s)) (down (2 ^ n))));
  }

-- ---- they can be counted
pub counted-few : (what : What) (g : GameView) → IsGame g → length (counted_coalitions what (votes_of g)) ≤ 2 ^ 40
unfolding minimal_coalitions winning_coalitions
counted-few Minimal g game = minimal-few g game
counted-few ByWays g game = minimal-few g game
counted-few Winning g game = winning-few g game

pub counted-nonempty : (what : What) (g : GameView) → IsGame g → AreNonemptyCoalitions g (counted_coalitions what (votes_of g))
unfolding minimal_coalitions winning_coalitions
counted-nonempty Minimal g game = minimal-are-coalitions g game
counted-nonempty ByWays g game = minimal-are-coalitions g game
counted-nonempty Winning g game = winning-are-coalitions g game
