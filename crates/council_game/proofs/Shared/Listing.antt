-- The list of minimal coalitions.
use Rattle.council_game.proofs.Imports.{length, sum, refl, ap, arith, All, AllPairs, filter, pow_pos, append-nil, All-cons}
use Rattle.council_game.proofs.Imports.{◌≡◌, ℕ, zero, suc, ◌-◌, ◌/◌, ◌%◌, ◌^◌, ◌<◌, ◌≤◌, Bool, true, false, not, List, [], ◌∷◌, ◌++◌}
use Rattle.council_game.proofs.Imports.{All-nil, AllPairs-cons, sum_by-cons, and_parts, both_ways, cond-true, cond-false, nat_tests}
use Rattle.council_game.proofs.Imports.{Votes, IsVotes, weight, wins, meets_quota, rule_at, cases_lt, minimal, minimal_coalitions, minimal_below}
use Rattle.council_game.proofs.Imports.{sym, inl, inr, cases_eq, ◌≢◌, ◌∙◌}
use Rattle.std.proofs.lemmas.List.{Elements.All-filter, Elements.filter_passes, Filters.length-filter_both, Kept.AllPairs-filter}
use Rattle.std.proofs.lemmas.List.Elements.{All-contains, Contains-append_right}
use Rattle.std.proofs.{Common.append_assoc, Common.Contains, Common.◌↔◌, lemmas.Bool.cond_both, lemmas.Nat.Bits.bit_at_ones}
use Rattle.council_game.specs.{Laws.IsListing, Votes.down}
use Rattle.council_game.proofs.Shared.{Ways.ways-all, Ways.ways-none, Ways.ways-some, WinningByPlaces.rule-is, WinningByPlaces.met-past}
use Rattle.council_game.proofs.Shared.{Subsets.minimal-inside, WeightByDigits.weight-nil, WeightByDigits.weight-cons, Weights.weight-zero}

-- a coalition that has all members weighs all
weight-full : (ws : List ℕ) (c : ℕ) → ((i : ℕ) → i < length ws → c / 2 ^ i % 2 ≡ 1) → weight ws c ≡ sum ws
weight-full [] c all = weight-nil c
weight-full (w ∷ ws) c all =
    grind (arith, weight-full ws c (λ i lt. all i (omega arith)), weight-cons w ws c, all (length ws) (omega arith), sum_by-cons (λ (y : ℕ). y) w ws)

wins-full : (v : Votes) → IsVotes v → wins v (2 ^ v.members - 1) ≡ true
unfolding wins
wins-full v game =
    ways-all (λ r. meets_quota (2 ^ v.members - 1) (rule_at v.rules r)) v.ways (λ r. elim (cases_lt r (length v.rules)) [
      | inl lt ↦ let rule = rule-is v r game lt in
          let full = weight-full (rule_at v.rules r).weights (2 ^ v.members - 1) (λ i below. bit_at_ones v.members i (omega (arith, rule.full, below))) in
          grind (arith, nat_tests)
      | inr past ↦ met-past v.rules r (2 ^ v.members - 1) past
    ]) (ways-some (length v.rules) v.ways game.ways).0

-- the empty coalition loses
none-wins : (v : Votes) → IsVotes v → wins v 0 ≡ true → ⊥
unfolding wins
none-wins v game won =
    both_ways _ (ways-none (length v.rules) (λ r. meets_quota 0 (rule_at v.rules r)) v.ways (λ r lt.
    let rule = rule-is v r game lt in
    let none = weight-zero (rule_at v.rules r).weights in
    grind (arith, nat_tests)) (ways-some (length v.rules) v.ways game.ways).2) won

pub down-below : (n m : ℕ) → n ≤ m → All (λ c. c < m) (down n)
unfolding down
down-below zero m le = All-nil (λ c. c < m)
down-below (suc n) m le = All-cons (λ c. c < m) n (down n) (omega arith) (down-below n m (omega arith))

down-descends : (n : ℕ) → AllPairs (λ a b. b < a) (down n)
unfolding down
down-descends zero = λ i j d less lt. absurd (omega arith)
down-descends (suc n) = AllPairs-cons (λ a b. b < a) n (down n) (down-below n n (omega arith)) (down-descends n)

-- what passes among them is listed
down-has : (p : ℕ → Bool) (n m : ℕ) → m < n → p m ≡ true → Contains (filter p (down n)) m
unfolding down
down-has p zero m lt h = absurd (omega arith)
down-has p (suc n) m lt h =
    cond_both (p n) (n ∷ filter p (down n)) (filter p (down n)) (λ l. Contains l m)
    (λ is. elim (cases_eq m n) [
      | inl same ↦ (0, omega arith, sym same)
      | inr other ↦ Contains-append_right (n ∷ []) (filter p (down n)) m (down-has p n m (omega (arith, lt, other)) h)
    ])
    (λ isnt. let other : m ≢ n = λ same. both_ways _ isnt (ap p (sym same) ∙ h) in down-has p n m (omega (arith, lt, other)) h)

length-down : (n : ℕ) → length (down n) ≡ n
unfolding down
length-down zero = refl
length-down (suc n) = ap (λ (k : ℕ). suc k) (length-down n)

pub listing-is : (v : Votes) → IsVotes v → IsListing v
unfolding minimal_coalitions minimal
listing-is v game =
    let pos : 0 < 2 ^ v.members = pow_pos v.members in
    let found = minimal-inside v (2 ^ v.members) (2 ^ v.members - 1) (omega arith) (wins-full v game) in
    record {
      some = (let first = down-has (minimal v) (2 ^ v.members) found.0 (omega (arith, found.1)) found.2 in omega (arith, first.1));
      few =
          (let parts = length-filter_both (minimal v) (λ c. not (minimal v c)) (λ c. refl) (down (2 ^ v.members)) in
          let all = length-down (2 ^ v.members) in omega (arith, parts, all));
      below = All-filter (minimal v) (λ c. c < 2 ^ v.members) (down (2 ^ v.members))
          (down-below (2 ^ v.members) (2 ^ v.members) (omega arith));
      descending = AllPairs-filter (λ a b. b < a) (minimal v) (down (2 ^ v.members)) (down-descends (2 ^ v.members));
      none_empty = grind (arith, none-wins, and_parts, filter_passes);
    }

-- ---- the list by its coalitions
pub listed-is : (v : Votes) (c : ℕ) → Contains (minimal_coalitions v) c ↔ ((c < 2 ^ v.members) × (minimal v c ≡ true))
unfolding minimal_coalitions
listed-is v c = (
  λ listed. (
    All-contains (λ d. d < 2 ^ v.members) (minimal_coalitions v) c (All-filter (minimal v) (λ d. d < 2 ^ v.members) (down (2 ^ v.members))
        (down-below (2 ^ v.members) (2 ^ v.members) (omega arith))) listed,
    All-contains (λ d. minimal v d ≡ true) (minimal_coalitions v) c (filter_passes (minimal v) (down (2 ^ v.members))) listed,
  ),
  λ both. down-has (minimal v) (2 ^ v.members) c both.0 both.1,
)

-- ---- the list, filled from above
pub listed-more : (v : Votes) (xs ys all : List ℕ) (m c : ℕ) → 0 < m → c ≡ m - 1 → minimal v c ≡ true → ys ≡ xs ++ c ∷ []
    → xs ++ minimal_below v m ≡ all → ys ++ minimal_below v (m - 1) ≡ all
unfolding minimal_below down
listed-more v xs ys all m c pos is min pushed h = grind (arith, nat_tests, cond-true, append_assoc)

pub listed-less : (v : Votes) (xs all : List ℕ) (m c : ℕ) → 0 < m → c ≡ m - 1 → minimal v c ≡ false → xs ++ minimal_below v m ≡ all
    → xs ++ minimal_below v (m - 1) ≡ all
unfolding minimal_below down
listed-less v xs all m c pos is fails h = grind (arith, nat_tests, cond-false)

pub listed-all : (v : Votes) (xs all : List ℕ) (m : ℕ) → m ≤ 0 → xs ++ minimal_below v m ≡ all → xs ≡ all
unfolding minimal_below down
listed-all v xs all m le h = grind (arith, nat_tests, append-nil)
