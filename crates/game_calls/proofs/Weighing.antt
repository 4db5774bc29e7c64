-- What coalitions weigh: vetoers and swings by weight, and games in which no two disjoint ones win.
use Rattle.std.proofs.Common.{◌≡◌, ◌∙◌, ◌||◌, ◌&&◌, ◌==◌, ◌↔◌, ℕ, zero, suc, ◌+◌, ◌*◌, ◌^◌, ◌<◌, ◌≤◌, Bool, true, false, not, cond}
use Rattle.std.proofs.Common.{List, [], ◌∷◌, length, get_or, sum, sum_by, sym, ap, refl, arith, inl, inr, All, leb-true, le-leb}
use Rattle.std.specs.{List.list_all, List.list_any, List.range_with_len, Prelude.nat_le}
use Rattle.std.proofs.Math.Bool.{or-false}
use Rattle.std.proofs.lemmas.{Bool.Decides.nat_tests, List.get_or-map, List.length-map, List.FromFn.fill_by_all}
use Rattle.std.proofs.lemmas.List.Sums.{length-filter, sum-map, sum_by-cons, sum_by-le-sum_by}
use Rattle.std.proofs.lemmas.List.Sums.{AllPass-from_list_all}
use Rattle.std.proofs.lemmas.Bool.{and_parts, both_ways, cases_Bool, cases_lt, false_from_ne_true, or_right}
use Rattle.council_game.specs.Coalitions.{has, without}
use Rattle.council_game.proofs.Shared.{Digits.has-gone, Sums.sum-plus}
use Rattle.council_game.specs.Game.{GameView, IsGame, has_low_quota, has_low_quotas, total, votes_of}
use Rattle.council_game.specs.Ways.{are_ways, has_rule}
use Rattle.council_game.specs.{Members.contains, Ranks.members_by_rank, Ranks.rule_by_rank, Renaming.exchanged}
use Rattle.council_game.specs.Votes.{RuleView, down, meets_quota, rule_at, weight, wins}
use Rattle.council_game.proofs.Shared.Rankings.{by_rank-at, length-by_rank, length-weights_by_rank}
use Rattle.council_game.proofs.Shared.Sets.{coalition_of_set, set-below, set-contains, set-one, sum-moved, sum-range, weight-members, without-contains}
use Rattle.council_game.proofs.Shared.{Games.passed, Making.ranks-are, Renamed.exchange, Weights.weight-without, WinningByPlaces.met-past}
use Rattle.council_game.proofs.Shared.Ways.{each-passes, has-own, one-rule-passes, own-rule, some-passes, ways-more}
use Rattle.power_index.specs.{Swings.is_critical, Swings.swings}
use Rattle.game_calls.specs.Winning.{AreDisjoint, IsProper, IsVetoer, have_high_rules}
use Rattle.game_calls.proofs.{Collecting.needed, Minimal.larger_wins-of, Swings.critical-is, Swings.without-below}

-- the weights of all members together
whole : (ws : List ℕ) (n : ℕ) → length ws ≡ n → sum_by (λ k. get_or ws k 0) (range_with_len 0 n) ≡ sum ws
whole ws n long =
    sym (ap (λ (l : List ℕ). sum l) (fill_by_all (λ k. get_or ws k 0) ws n 0 long (λ k lt. refl)) ∙ sum-map (λ k. get_or ws k 0) (range_with_len 0 n))

less : (ws : List ℕ) (n p c : ℕ) → length ws ≡ n → p < n → has n p c ≡ true → weight ws (without n p c) + get_or ws p 0 ≡ weight ws c
unfolding has without
less ws n p c long lt inside = grind (arith, nat_tests, weight-without)

sum-down-le : (f h : ℕ → ℕ) (n : ℕ) → ((c : ℕ) → c < n → f c ≤ h c) → sum_by f (down n) ≤ sum_by h (down n)
unfolding down
sum-down-le f h zero less = omega arith
sum-down-le f h (suc n) less = simp sum_by-cons (omega (arith, less n (omega arith), sum-down-le f h n (λ c lt. less c (omega (arith, lt)))))

-- if some rule of the only way has no low quota, the way shares it with itself
some-high : (low : ℕ → Bool) (way rest : List ℕ) → ((r : ℕ) → has_rule rest r ≡ true → has_rule way r ≡ true) → list_all low rest ≡ false
    → list_any (λ r. has_rule way r && not (low r)) rest ≡ true
some-high low way [] inside high = absurd cc
some-high low way (r ∷ rest) inside high =
    let own : has_rule way r ≡ true = inside r (has-own (r ∷ rest) 0 0 (omega arith)) in
    elim (cases_Bool (low r)) [
      | inl is ↦ or_right _ _ (some-high low way rest (λ s has. inside s (or_right (r == s) _ has)) (sym (ap (λ (b : Bool). b && list_all low rest) is) ∙ high))
      | inr not-low ↦ grind (arith, nat_tests, own, not-low)
    ]

one-shared : (low : ℕ → Bool) (ways : List (List ℕ)) → length ways ≡ 1 → list_any (list_all low) ways ≡ false
    → list_all (λ way. list_all (λ other. list_any (λ r. has_rule other r && not (low r)) way) ways) ways ≡ true
one-shared low [] one high = absurd (omega (arith, one))
one-shared low (way ∷ other ∷ ways) one high = absurd (omega (arith, one))
one-shared low (way ∷ []) one high =
    let some = some-high low way way (λ r has. has) (sym (or-false (list_all low way)) ∙ high) in rw (some) refl

module _ (g : GameView) (is : IsGame g) where
  abbrev n : ℕ
  n = length g.names

  abbrev weighs : RuleView → ℕ → ℕ
  weighs r c = weight (rule_by_rank g.ranks r).weights c

  -- whether c meets the quota of rule r
  abbrev meets : ℕ → ℕ → Bool
  meets c r = meets_quota c (rule_at (votes_of g).rules r)

  meets-rule : (c r : ℕ) → r < length g.rules → meets c r ≡ nat_le (rule_at g.rules r).quota (weighs (rule_at g.rules r) c)
  meets-rule c r lt = ap (meets_quota c) (get_or-map (rule_by_rank g.ranks) g.rules r _ _ lt)

  by-quota : (c : ℕ) → length g.rules ≡ 1 → wins (votes_of g) c ≡ nat_le (rule_at g.rules 0).quota (weighs (rule_at g.rules 0) c)
  unfolding wins
  by-quota c one =
      one-rule-passes g.ways (meets c) (ap (λ (k : ℕ). are_ways k g.ways) (sym one) ∙ (passed g is.made).ways)
      ∙ meets-rule c 0 is.has_rule

  -- without a member a coalition weighs less by the member's weight
  lighter : (r : RuleView) (c i : ℕ) → i < n → contains g i c ≡ true
      → weighs r (without n (get_or g.ranks i 0) c) + get_or r.weights i 0 ≡ weighs r c
  lighter r c i li inside =
      let are = ranks-are g is in
      let p : ℕ = get_or g.ranks i 0 in
      let below = are.place_below i li in
      let ws : List ℕ = (rule_by_rank g.ranks r).weights in
      let there : p < length (members_by_rank g.ranks) = omega (arith, length-by_rank g.ranks, are.count, below) in
      let own : get_or ws p 0 ≡ get_or r.weights i 0 =
      get_or-map (λ m. get_or r.weights m 0) (members_by_rank g.ranks) p 0 0 there
      ∙ ap (λ (m : ℕ). get_or r.weights m 0) (by_rank-at g.ranks p 0 (omega (arith, are.count, below)) ∙ are.member_back i li) in
      omega (arith, less ws n p c (length-weights_by_rank g.ranks r.weights ∙ are.count) below inside, own)

  -- ---- a vetoer is who leaves less than the quota
  pub by_weight : length g.rules ≡ 1 → (i : ℕ) → i < n
      → IsVetoer g i ↔ (total (rule_at g.rules 0) < (rule_at g.rules 0).quota + get_or (rule_at g.rules 0).weights i 0)
  by_weight one i li =
      let r : RuleView = rule_at g.rules 0 in
      let all : ℕ = coalition_of_set g is (λ k. true) in
      let others : ℕ = without n (get_or g.ranks i 0) all in
      let everyone : (k : ℕ) → k < n → contains g k all ≡ true = set-contains g is (λ k. true) in
      let weigh : weighs r others + get_or r.weights i 0 ≡ total r =
      lighter r all i li (everyone i li) ∙ weight-members g is r all
      ∙ sum-range (λ k. cond (contains g k all) 1 0 * get_or r.weights k 0) (λ k. get_or r.weights k 0) 0 n
      (λ k _ lt. grind (arith, nat_tests, everyone k (omega (arith, lt)))) ∙ whole r.weights n (is.full 0 _ is.has_rule) in
      let quota = by-quota others one in (
        λ veto.
            let lost = false_from_ne_true (wins (votes_of g) others) (λ still. both_ways _ (has-gone n (get_or g.ranks i 0) all (everyone i li))
            (veto others (without-below n (get_or g.ranks i 0) all (set-below g is (λ k. true))) still)) in
            grind (arith, nat_tests, quota, lost, weigh),
        λ short. needed g i all others li (larger_wins-of g is) everyone
            (λ k lk other. without-contains g is all i k li lk (everyone i li) ∙ grind (arith, nat_tests, other))
            (grind (arith, nat_tests, quota, short, weigh)),
      )

  -- ---- no two disjoint coalitions win
  apart : (r : RuleView) (a c : ℕ) → length r.weights ≡ n → AreDisjoint g a c → weighs r a + weighs r c ≤ total r
  apart r a c long disjoint =
      let w : ℕ → ℕ = λ k. get_or r.weights k 0 in
      let part : ℕ → ℕ → ℕ = λ d k. cond (contains g k d) 1 0 * w k in
      let both : ℕ → ℕ = λ k. cond (contains g k a || contains g k c) 1 0 * w k in
      omega (
        arith,
        weight-members g is r a,
        weight-members g is r c,
        sum-plus (part a) (part c) (range_with_len 0 n),
        sum-range (λ k. part a k + part c k) both 0 n (λ k _ lt. grind (arith, nat_tests, disjoint k (omega (arith, lt)))),
        sum_by-le-sum_by both w (range_with_len 0 n) (λ k. grind (arith, nat_tests)),
        whole r.weights n long,
      )

  not-both : (a c r : ℕ) → r < length g.rules → not (has_low_quota (rule_at g.rules r)) ≡ true → AreDisjoint g a c → meets a r ≡ true → meets c r ≡ false
  not-both a c r lt high disjoint won =
      let apart-here = apart (rule_at g.rules r) a c (is.full r _ lt) disjoint in
      let here = sym (meets-rule a r lt) ∙ won in
      meets-rule c r lt ∙ grind (arith, nat_tests, apart-here, here, high)

  pub shared_high : have_high_rules g ≡ true → IsProper g
  unfolding wins
  shared_high high a c disjoint won = false_from_ne_true (wins (votes_of g) c) (λ also.
      let are = (passed g is.made).ways in
      let first = some-passes (list_all (meets a)) g.ways [] won in
      let second = some-passes (list_all (meets c)) g.ways [] also in
      let way : List ℕ = get_or g.ways first.0 [] in
      let other : List ℕ = get_or g.ways second.0 [] in
      let is_high : ℕ → Bool = λ r. not (has_low_quota (rule_at g.rules r)) in
      let shared = some-passes (λ r. has_rule other r && is_high r) way 0
      (AllPass-from_list_all (λ o. list_any (λ r. has_rule o r && is_high r) way) g.ways
      (AllPass-from_list_all (λ w. list_all (λ o. list_any (λ r. has_rule o r && is_high r) w) g.ways) g.ways high first.0 [] first.1) second.0 [] second.1) in
      let r : ℕ = get_or way shared.0 0 in
      let both = and_parts (has_rule other r) (is_high r) shared.2 in
      let own : has_rule way r ≡ true = has-own way shared.0 0 shared.1 in
      both_ways (meets c r)
      (not-both a c r (own-rule (length g.rules) g.ways first.0 r are first.1 own) both.1 disjoint (each-passes (meets a) way r first.2 own))
      (each-passes (meets c) other r second.2 both.0))

  pub one_high : length g.ways ≡ 1 → has_low_quotas g ≡ false → IsProper g
  one_high one high = shared_high (one-shared (λ r. has_low_quota (rule_at g.rules r)) g.ways one high)

  -- ---- more weight has no fewer swings
  module _ (i j : ℕ) (li : i < n) (lj : j < n) where
    abbrev IsMore : RuleView → Type 0
    IsMore r = get_or r.weights j 0 ≤ get_or r.weights i 0

    wins-by : (x y : ℕ) → ((r : RuleView) → IsMore r → weighs r x ≤ weighs r y) → All IsMore g.rules
        → wins (votes_of g) x ≡ true → wins (votes_of g) y ≡ true
    unfolding wins
    wins-by x y step more won = ways-more (meets x) (meets y) (λ r met. elim (cases_lt r (length g.rules)) [
      | inl lt ↦
          let own : RuleView = rule_at g.rules r in
          let le : own.quota ≤ weighs own x = leb-true _ _ (sym (meets-rule x r lt) ∙ met) in
          let least = step own (more r _ lt) in
          meets-rule y r lt ∙ le-leb _ _ (omega (arith, le, least))
      | inr past ↦ met-past (votes_of g).rules r y (let long = length-map g.rules (rule_by_rank g.ranks) in omega (arith, past, long))
    ]) g.ways won

    -- a coalition with j for i, and i for j
    abbrev swap : ℕ → ℕ
    swap c = coalition_of_set g is (λ k. contains g (exchanged i j k) c)

    swap-has : (c k : ℕ) → k < n → contains g k (swap c) ≡ contains g (exchanged i j k) c
    swap-has c = set-contains g is (λ k. contains g (exchanged i j k) c)

    swap-back : (c : ℕ) → c < 2 ^ n → (swap c < 2 ^ n) × (swap (swap c) ≡ c)
    swap-back c lt =
        let ex = exchange n i j li lj in (
          set-below g is (λ k. contains g (exchanged i j k) c),
          set-one g is (swap (swap c)) c (set-below g is (λ k. contains g (exchanged i j k) (swap c))) lt (λ k lk.
              swap-has (swap c) k lk ∙ swap-has c (exchanged i j k) (ex.to_below k lk) ∙ ap (λ (m : ℕ). contains g m c) (ex.back k lk)),
        )

    -- if j is critical after the exchange, i is before it
    critical-too : All IsMore g.rules → (c : ℕ) → c < 2 ^ n → is_critical g (swap c) j ≡ true → is_critical g c i ≡ true
    critical-too more c below critical =
        let s : ℕ = swap c in
        let less-i : ℕ = without n (get_or g.ranks i 0) c in
        let less-j : ℕ = without n (get_or g.ranks j 0) s in
        let are = critical-is g s j critical in
        let inside : contains g i c ≡ true = grind (arith, nat_tests, swap-has c j lj, are.0) in
        elim (cases_Bool (contains g j c)) [
          | inl both ↦
              let same : s ≡ c = set-one g is s c (swap-back c below).0 below (λ k lk. swap-has c k lk ∙ grind (arith, nat_tests, inside, both)) in
              let still = wins-by less-i less-j
              (λ r le. omega (arith, le, lighter r c i li inside, lighter r s j lj are.0, ap (weighs r) same)) more in
              grind (arith, nat_tests, inside, are.1, are.2, still, ap (wins (votes_of g)) same)
          | inr only ↦
              let same : less-i ≡ less-j =
              set-one g is less-i less-j (without-below n _ c below) (without-below n _ s (swap-back c below).0) (λ k lk.
              without-contains g is c i k li lk inside
              ∙ grind (arith, nat_tests, only, swap-has c k lk)
              ∙ sym (without-contains g is s j k lj lk are.0)) in
              let won = wins-by s c
              (λ r le. omega (arith, le, lighter r c i li inside, lighter r s j lj are.0, ap (weighs r) same)) more in
              grind (arith, nat_tests, inside, are.1, are.2, won, ap (wins (votes_of g)) same)
        ]

    pub no_fewer : All IsMore g.rules → swings g j ≤ swings g i
    unfolding swings
    no_fewer more =
        let one : ℕ → ℕ → ℕ = λ k c. cond (is_critical g c k) 1 0 in
        omega (
          arith,
          length-filter (λ c. is_critical g c j) (down (2 ^ n)),
          length-filter (λ c. is_critical g c i) (down (2 ^ n)),
          sum-moved (one j) swap swap (2 ^ n) swap-back swap-back,
          sum-down-le (λ c. one j (swap c)) (one i) (2 ^ n) (λ c lt. grind (arith, nat_tests, critical-too more c lt)),
        )
