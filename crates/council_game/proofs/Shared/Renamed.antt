-- Games whose members are those of another one, renamed.
use Rattle.council_game.proofs.Imports.{◌≡◌, ◌≢◌, ◌∙◌, ◌==◌, ℕ, zero, suc, ◌+◌, ◌*◌, ◌^◌, ◌<◌, Bool, true, not, cond, List, [], ◌∷◌}
use Rattle.council_game.proofs.Imports.{length, map, sym, ap, refl, arith, sum_by, sum_by-cons, range_with_len, nat_tests, get_or}
use Rattle.council_game.proofs.Imports.{cases_eq, cases_Bool, inl, inr, recursion_from_All, AllByRecursion, list_all, list_any, meets_quota, rule_at}
use Rattle.council_game.proofs.Shared.WinningByPlaces.{met-past}
use Rattle.council_game.proofs.Imports.{GameView, IsGame, votes_of, RuleView, rule_by_rank, without, weight, wins, minimal, minimal_coalitions}
use Rattle.std.proofs.Common.{◌&&◌}
use Rattle.std.specs.List.{AllZip}
use Rattle.council_game.proofs.Shared.Ranges.{sum_by-range-more}
use Rattle.council_game.specs.{Laws.IsSameByMembers, Members.contains, Members.size_of, Votes.down}
use Rattle.council_game.specs.Renaming.{AreInverse, HaveRenamedMembers, IsRenaming, AreAlike, IsRenamedRule, HaveRenamedRules}
use Rattle.council_game.specs.Renaming.{exchanged, AreSymmetric, HaveEqualWeights}
use Rattle.council_game.proofs.Shared.Sets.{sum-range, sum-down, sum-moved, count-both, coalition_of_set, set-contains, set-below, set-one}
use Rattle.council_game.proofs.Shared.Sets.{weight-members, size-members, without-contains, needs-members, from-members}

-- ---- sums over renamed members
sum-range-down : (f : ℕ → ℕ) (n : ℕ) → sum_by f (range_with_len 0 n) ≡ sum_by f (down n)
unfolding down
sum-range-down f zero = refl
sum-range-down f (suc n) =
    let one : suc n ≡ n + 1 = omega arith in
    ap (λ (k : ℕ). sum_by f (range_with_len 0 k)) one ∙ sum_by-range-more f n ∙ omega (arith, sum-range-down f n, sum_by-cons f n (down n))

pub sum-renamed : (f to from : ℕ → ℕ) (n : ℕ) → AreInverse n to from
    → sum_by (λ i. f (to i)) (range_with_len 0 n) ≡ sum_by f (range_with_len 0 n)
sum-renamed f to from n r =
    sum-range-down (λ i. f (to i)) n
    ∙ sum-moved f to from n (λ i lt. (r.to_below i lt, r.back i lt)) (λ i lt. (r.from_below i lt, r.forth i lt))
    ∙ sym (sum-range-down f n)

-- ---- rules of renamed members
module _ (to from : ℕ → ℕ) (g h : GameView) (is_g : IsGame g) (is_h : IsGame h) (count : length h.names ≡ length g.names)
    (inverse : AreInverse (length g.names) to from) (c d : ℕ) (same : HaveRenamedMembers to g h c d) where
  pub met-alike : (rs ts : List RuleView) → AllZip (IsRenamedRule (length g.names) to) rs ts → (i : ℕ)
      → meets_quota c (rule_at (map (rule_by_rank g.ranks) rs) i) ≡ meets_quota d (rule_at (map (rule_by_rank h.ranks) ts) i)
  met-alike [] [] all i = met-past [] i c (omega arith) ∙ sym (met-past [] i d (omega arith))
  met-alike [] (t ∷ ts) all i = absurd all
  met-alike (r ∷ rs) [] all i = absurd all
  met-alike (r ∷ rs) (t ∷ ts) all (suc i) = met-alike rs ts all.1 i
  met-alike (r ∷ rs) (t ∷ ts) all zero =
      let n = length g.names in
      let own : ℕ → ℕ = λ i. cond (contains g i c) 1 0 * get_or r.weights i 0 in
      let other : ℕ → ℕ = λ k. cond (contains h k d) 1 0 * get_or t.weights k 0 in
      let weigh : weight (rule_by_rank g.ranks r).weights c ≡ weight (rule_by_rank h.ranks t).weights d =
      weight-members g is_g r c
      ∙ sum-range own (λ i. other (to i)) 0 n (λ i _ lt.
      let b = same i (omega (arith, lt)) in
      let w = all.0.weights i (omega (arith, lt)) in grind (arith, b, w))
      ∙ sum-renamed other to from n inverse
      ∙ ap (λ (k : ℕ). sum_by other (range_with_len 0 k)) (sym count)
      ∙ sym (weight-members h is_h t d) in
      let quota = all.0.quota in
      grind (arith, weigh, quota)

  pub wins-alike : HaveRenamedRules to g h → h.ways ≡ g.ways → wins (votes_of g) c ≡ wins (votes_of h) d
  unfolding wins
  wins-alike all ways =
      (λ k. list_any (list_all (λ r. met-alike g.rules h.rules all r k)) g.ways)
      ∙ ap (list_any (list_all (λ r. meets_quota d (rule_at (votes_of h).rules r)))) (sym ways)

pub renamed-rules : (to from : ℕ → ℕ) (g h : GameView) → IsGame g → IsGame h → length h.names ≡ length g.names
    → AreInverse (length g.names) to from → HaveRenamedRules to g h → h.ways ≡ g.ways → IsRenaming to from g h
renamed-rules to from g h is_g is_h count inverse all ways = record {
  count = count;
  inverse = inverse;
  win = λ c d same. wins-alike to from g h is_g is_h count inverse c d same all ways;
}

-- back to the first game
renamed-back : (to from : ℕ → ℕ) (g h : GameView) → IsRenaming to from g h → IsRenaming from to h g
renamed-back to from g h r =
    let inverse : AreInverse (length h.names) from to =
    rw r.count (record {
      to_below = r.inverse.from_below;
      from_below = r.inverse.to_below;
      back = r.inverse.forth;
      forth = r.inverse.back;
    }) in
    record {
      count = sym r.count;
      inverse = inverse;
      win = λ c d same. sym (r.win d c (λ i lt.
          sym (same (to i) (omega (arith, r.count, r.inverse.to_below i lt)) ∙ ap (λ (j : ℕ). contains g j d) (r.inverse.back i lt))));
    }

same-test : (a b x y : ℕ) → (a ≡ b → x ≡ y) → (x ≡ y → a ≡ b) → (a == b) ≡ (x == y)
same-test a b x y there back = grind (arith, nat_tests)

module _ (to from : ℕ → ℕ) (g h : GameView) (is_g : IsGame g) (is_h : IsGame h) (r : IsRenaming to from g h) where
  fewer : (c d i : ℕ) → HaveRenamedMembers to g h c d → i < length g.names → contains g i c ≡ true
      → HaveRenamedMembers to g h (without (length g.names) (get_or g.ranks i 0) c) (without (length h.names) (get_or h.ranks (to i) 0) d)
  fewer c d i same li inside j lj =
      let at = r.inverse.to_below i li in
      let to-j = r.inverse.to_below j lj in
      let alike = same-test j i (to j) (to i) (λ e. ap to e) (λ e. sym (r.inverse.back j lj) ∙ ap from e ∙ r.inverse.back i li) in
      without-contains g is_g c i j li lj inside ∙ ap (λ (b : Bool). b && not (j == i)) (same j lj)
      ∙ ap (λ (b : Bool). contains h (to j) d && not b) alike
      ∙ sym (without-contains h is_h d (to i) (to j) (omega (arith, r.count, at)) (omega (arith, r.count, to-j)) (sym (same i li) ∙ inside))

  size-alike : (c d : ℕ) → HaveRenamedMembers to g h c d → size_of g c ≡ size_of h d
  size-alike c d same =
      let other : ℕ → ℕ = λ k. cond (contains h k d) 1 0 in
      size-members g is_g c
      ∙ sum-range (λ i. cond (contains g i c) 1 0) (λ i. other (to i)) 0 (length g.names)
      (λ i _ lt. ap (λ (b : Bool). cond b 1 0) (same i (omega (arith, lt))))
      ∙ sum-renamed other to from (length g.names) r.inverse
      ∙ ap (λ (n : ℕ). sum_by other (range_with_len 0 n)) (sym r.count)
      ∙ sym (size-members h is_h d)

  minimal-there : (c d : ℕ) → HaveRenamedMembers to g h c d → minimal (votes_of g) c ≡ true → minimal (votes_of h) d ≡ true
  minimal-there c d same min =
      let both = needs-members g is_g c min in
      from-members h is_h d (sym (r.win c d same) ∙ both.0) (λ k lt inside.
      let lk : k < length g.names = omega (arith, r.count, lt) in
      let li = r.inverse.from_below k lk in
      let who = r.inverse.forth k lk in
      let own = same (from k) li ∙ ap (λ (j : ℕ). contains h j d) who ∙ inside in
      ap (λ (j : ℕ). wins (votes_of h) (without (length h.names) (get_or h.ranks j 0) d)) (sym who)
      ∙ sym (r.win _ _ (fewer c d (from k) same li own)) ∙ both.1 (from k) li own)

  -- the coalition of h with the members of one of g
  pub there : ℕ → ℕ
  there c = coalition_of_set h is_h (λ k. contains g (from k) c)

  pub there-same : (c : ℕ) → HaveRenamedMembers to g h c (there c)
  unfolding there
  there-same c i lt =
      let at = r.inverse.to_below i lt in
      sym (set-contains h is_h (λ k. contains g (from k) c) (to i) (omega (arith, r.count, at)) ∙ ap (λ (j : ℕ). contains g j c) (r.inverse.back i lt))

  pub there-below : (c : ℕ) → there c < 2 ^ length g.names
  unfolding there
  there-below c = let same = ap (λ (n : ℕ). 2 ^ n) r.count in omega (arith, same, set-below h is_h (λ k. contains g (from k) c))

-- both ways
module _ (to from : ℕ → ℕ) (g h : GameView) (is_g : IsGame g) (is_h : IsGame h) (r : IsRenaming to from g h) where
  minimal-alike : (c d : ℕ) → HaveRenamedMembers to g h c d → minimal (votes_of g) c ≡ minimal (votes_of h) d
  minimal-alike c d same =
      let back : HaveRenamedMembers from h g d c = λ k lt.
      let lk : k < length g.names = omega (arith, r.count, lt) in
      ap (λ (j : ℕ). contains h j d) (sym (r.inverse.forth k lk)) ∙ sym (same (from k) (r.inverse.from_below k lk)) in
      grind (
        arith,
        nat_tests,
        minimal-there to from g h is_g is_h r c d same,
        minimal-there from to h g is_h is_g (renamed-back to from g h r) d c back,
      )

  there-back : (c : ℕ) → c < 2 ^ length g.names → there from to h g is_h is_g (renamed-back to from g h r) (there to from g h is_g is_h r c) ≡ c
  there-back c lt =
      let moved = there to from g h is_g is_h r c in
      let again = there from to h g is_h is_g (renamed-back to from g h r) moved in
      let room = ap (λ (n : ℕ). 2 ^ n) r.count in
      let below = there-below from to h g is_h is_g (renamed-back to from g h r) moved in
      set-one g is_g again c (omega (arith, room, below)) lt (λ i li.
      let at = r.inverse.to_below i li in
      sym (there-same from to h g is_h is_g (renamed-back to from g h r) moved (to i) (omega (arith, r.count, at))
      ∙ ap (λ (j : ℕ). contains g j again) (r.inverse.back i li))
      ∙ sym (there-same to from g h is_g is_h r c i li))

  there-inside : (c : ℕ) → there to from g h is_g is_h r c < 2 ^ length h.names
  there-inside c = let room = ap (λ (n : ℕ). 2 ^ n) r.count in omega (arith, room, there-below to from g h is_g is_h r c)

-- as many coalitions pass a test of their members
pub as-many : (to from : ℕ → ℕ) (g h : GameView) → IsGame g → IsGame h → IsRenaming to from g h → (p q : ℕ → Bool)
    → ((c d : ℕ) → c < 2 ^ length g.names → d < 2 ^ length g.names → HaveRenamedMembers to g h c d → p c ≡ q d)
    → sum_by (λ c. cond (p c) 1 0) (down (2 ^ length g.names)) ≡ sum_by (λ d. cond (q d) 1 0) (down (2 ^ length h.names))
unfolding renamed-back there
as-many to from g h is_g is_h r p q alike =
    let room = ap (λ (n : ℕ). 2 ^ n) r.count in
    let go = there to from g h is_g is_h r in
    let come = there from to h g is_h is_g (renamed-back to from g h r) in
    let other : ℕ → ℕ = λ d. cond (q d) 1 0 in
    sum-down (λ c. cond (p c) 1 0) (λ c. other (go c)) (2 ^ length g.names) (λ c lt k.
    cond (alike c (go c) lt (there-below to from g h is_g is_h r c) (there-same to from g h is_g is_h r c) k) 1 0)
    ∙ sum-moved other go come (2 ^ length g.names)
    (λ c lt. (there-below to from g h is_g is_h r c, there-back to from g h is_g is_h r c lt))
    (λ d lt. (
      there-inside from to h g is_h is_g (renamed-back to from g h r) d,
      there-back from to h g is_h is_g (renamed-back to from g h r) d (omega (arith, room, lt)),
    ))
    ∙ ap (λ (m : ℕ). sum_by other (down m)) (sym room)

pub renamed-alike : (to from : ℕ → ℕ) (g h : GameView) → IsGame g → IsGame h → IsRenaming to from g h → AreAlike to g h
unfolding minimal_coalitions
renamed-alike to from g h is_g is_h r =
    let alone = minimal-alike to from g h is_g is_h r in record {
      size = size-alike to from g h is_g is_h r;
      win = r.win;
      minimal = alone;
      counts = λ p q alike.
          count-both (minimal (votes_of g)) p (down (2 ^ length g.names))
          ∙ as-many to from g h is_g is_h r (λ c. minimal (votes_of g) c && p c) (λ d. minimal (votes_of h) d && q d)
          (λ c d lc ld m k. alone c d m k && alike c d lc ld m k)
          ∙ sym (count-both (minimal (votes_of h)) q (down (2 ^ length h.names)));
    }

-- ---- two games of the same members and rules
abbrev pub same : ℕ → ℕ
same i = i

same-inverse : (n : ℕ) → AreInverse n same same
same-inverse n = record { to_below = λ i lt. lt; from_below = λ i lt. lt; back = λ i lt. refl; forth = λ i lt. refl }

same-rules : (n : ℕ) (rs : List RuleView) → AllZip (IsRenamedRule n same) rs rs
same-rules n [] = tt
same-rules n (r ∷ rs) = (record { quota = refl; weights = λ i lt. refl }, same-rules n rs)

pub same-renaming : (g h : GameView) → IsGame g → IsGame h → h.names ≡ g.names → h.rules ≡ g.rules → h.ways ≡ g.ways → IsRenaming same same g h
same-renaming g h is_g is_h names rules ways =
    renamed-rules same same g h is_g is_h (ap (λ (l : List (List ℕ)). length l) names) (same-inverse (length g.names))
    (rw rules (same-rules (length g.names) g.rules)) ways

pub same-by-members : (g h : GameView) → IsGame g → IsGame h → h.names ≡ g.names → h.rules ≡ g.rules → h.ways ≡ g.ways
    → IsSameByMembers g h
same-by-members g h is_g is_h names rules ways =
    let alike = renamed-alike same same g h is_g is_h (same-renaming g h is_g is_h names rules ways) in
    record { size = alike.size; win = alike.win; minimal = alike.minimal; counts = alike.counts }

-- ---- two members exchanged
pub first-exchanged : (i j : ℕ) → exchanged i j i ≡ j
first-exchanged i j = grind (arith, nat_tests)

second-exchanged : (i j : ℕ) → exchanged i j j ≡ i
second-exchanged i j = grind (arith, nat_tests)

other-exchanged : (i j k : ℕ) → k ≢ i → k ≢ j → exchanged i j k ≡ k
other-exchanged i j k not-i not-j = grind (arith, nat_tests)

exchanged-below : (i j k n : ℕ) → i < n → j < n → k < n → exchanged i j k < n
exchanged-below i j k n li lj lt = grind (arith, nat_tests)

exchanged-twice : (i j k : ℕ) → exchanged i j (exchanged i j k) ≡ k
exchanged-twice i j k = grind (arith, nat_tests)

pub exchange : (n i j : ℕ) → i < n → j < n → AreInverse n (exchanged i j) (exchanged i j)
exchange n i j li lj = record {
  to_below = λ k lt. exchanged-below i j k n li lj lt;
  from_below = λ k lt. exchanged-below i j k n li lj lt;
  back = λ k lt. exchanged-twice i j k;
  forth = λ k lt. exchanged-twice i j k;
}

-- what a function gives each number, and the exchanged number
alike-exchanged : {A : Type 0} (i j k : ℕ) (f h : ℕ → A) → f i ≡ h j → f j ≡ h i → (k ≢ i → k ≢ j → f k ≡ h k) → f k ≡ h (exchanged i j k)
alike-exchanged i j k f h first second others = elim (cases_eq k i) [
  | inl e ↦ ap f e ∙ first ∙ ap h (sym (ap (exchanged i j) e ∙ first-exchanged i j))
  | inr not-i ↦ elim (cases_eq k j) [
    | inl e ↦ ap f e ∙ second ∙ ap h (sym (ap (exchanged i j) e ∙ second-exchanged i j))
    | inr not-j ↦ others not-i not-j ∙ ap h (sym (other-exchanged i j k not-i not-j))
  ]
]

module _ (g : GameView) (is : IsGame g) (i j : ℕ) (li : i < length g.names) (lj : j < length g.names) where
  equal-rules : (rs : List RuleView) → AllByRecursion (λ r. get_or r.weights i 0 ≡ get_or r.weights j 0) rs
      → AllZip (IsRenamedRule (length g.names) (exchanged i j)) rs rs
  equal-rules [] all = tt
  equal-rules (r ∷ rs) all = (
    record {
      quota = refl;
      weights = λ k lt. sym (alike-exchanged i j k (λ m. get_or r.weights m 0) (λ m. get_or r.weights m 0) all.0 (sym all.0) (λ _ _. refl));
    },
    equal-rules rs all.1,
  )

  pub equal-weights : HaveEqualWeights g i j → AreSymmetric g i j
  equal-weights equal c d ic jc id jd others =
      wins-alike (exchanged i j) (exchanged i j) g g is is refl (exchange (length g.names) i j li lj) c d
      (λ k lt. alike-exchanged i j k (λ m. contains g m c) (λ m. contains g m d) (ic ∙ sym jd) (jc ∙ sym id) (others k lt))
      (equal-rules g.rules (recursion_from_All (λ (r : RuleView). get_or r.weights i 0 ≡ get_or r.weights j 0) g.rules equal)) refl

  pub symmetric-renaming : AreSymmetric g i j → IsRenaming (exchanged i j) (exchanged i j) g g
  symmetric-renaming symmetric = record {
    count = refl;
    inverse = exchange (length g.names) i j li lj;
    win = λ c d same.
        let first : contains g i c ≡ contains g j d = same i li ∙ ap (λ (k : ℕ). contains g k d) (first-exchanged i j) in
        let second : contains g j c ≡ contains g i d = same j lj ∙ ap (λ (k : ℕ). contains g k d) (second-exchanged i j) in
        let others : (k : ℕ) → k < length g.names → k ≢ i → k ≢ j → contains g k c ≡ contains g k d =
        λ k lt not-i not-j. same k lt ∙ ap (λ (m : ℕ). contains g m d) (other-exchanged i j k not-i not-j) in
        let equal : contains g i c ≡ contains g j c → wins (votes_of g) c ≡ wins (votes_of g) d =
        λ alike. (same-renaming g g is is refl refl refl).win c d (λ k lt. elim (cases_eq k i) [
          | inl e ↦ ap (λ (m : ℕ). contains g m c) e ∙ alike ∙ second ∙ ap (λ (m : ℕ). contains g m d) (sym e)
          | inr not-i ↦ elim (cases_eq k j) [
            | inl e ↦ ap (λ (m : ℕ). contains g m c) e ∙ sym alike ∙ first ∙ ap (λ (m : ℕ). contains g m d) (sym e)
            | inr not-j ↦ others k lt not-i not-j
          ]
        ]) in
        elim (cases_Bool (contains g i c)) [
          | inl ic ↦ elim (cases_Bool (contains g j c)) [
            | inl jc ↦ equal (ic ∙ sym jc)
            | inr jc ↦ symmetric c d ic jc (sym second ∙ jc) (sym first ∙ ic) others
          ]
          | inr ic ↦ elim (cases_Bool (contains g j c)) [
            | inl jc ↦ sym (symmetric d c (sym second ∙ jc) (sym first ∙ ic) ic jc (λ k lt not-i not-j. sym (others k lt not-i not-j)))
            | inr jc ↦ equal (ic ∙ sym jc)
          ]
        ];
  }
