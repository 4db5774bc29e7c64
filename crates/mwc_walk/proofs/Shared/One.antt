-- In a game of one rule, what wins first on the way down is minimal.
use Rattle.mwc_walk.proofs.Imports.{refl, cases_lt, both_ways, RuleView, Votes, IsRule, IsRanked, IsVotes, has, without, wins, minimal, ◌≡◌}
use Rattle.mwc_walk.proofs.Imports.{ℕ, arith, bit_at_cat_low, shr-shr, mul-le, pow_mono, eqb-true, ◌+◌, ◌-◌, ◌*◌, rule_at, sym, ◌∙◌}
use Rattle.mwc_walk.proofs.Imports.{◌/◌, ◌%◌, ◌^◌, ◌<◌, ◌≤◌, true, false, List, [], ◌∷◌, length, get_or, slice, wins_at, needs-each-member}
use Rattle.mwc_walk.proofs.Imports.{listing-is, take, weight-without}
use Rattle.mwc_walk.specs.Inner.Places.{meets_at}
use Rattle.council_game.specs.Votes.{meets_quota}
use Rattle.council_game.proofs.Shared.{Ways.ways-none, Ways.ways-some, Weights.weight-zero, WinningByPlaces.rule-is}
use Rattle.std.proofs.Common.{leb-false}
use Rattle.std.proofs.lemmas.{Bool.lt-leb, List.Sums.length-filter, List.Sums.count_by-le-length, Nat.shl-shr, Nat.Bits.bit_at-zero}
use Rattle.mwc_walk.proofs.Rules.{weight-block, weight-step, wins-prefix, wins-over, rule-passes}

first-ranked : (rs : List RuleView) → IsRanked rs → length rs ≡ 1 → (a b : ℕ) → a ≤ b → b < length (rule_at rs 0).weights
    → get_or (rule_at rs 0).weights b 0 ≤ get_or (rule_at rs 0).weights a 0
first-ranked [] ranked one a b le lt = absurd (omega (arith, one))
first-ranked (r ∷ rs) ranked one a b le lt = ranked a b le lt

-- places past the prefix are not in it
pub place-before : (n p x q : ℕ) → p ≤ n → q < n → has n q (x * 2 ^ (n - p)) ≡ true → q < p
unfolding has
place-before n p x q le below in' =
    grind (arith, cases_lt q p, bit_at_cat_low x (n - p) 0 (n - 1 - q), bit_at-zero (n - 1 - q), eqb-true _ _ in')

module _ (v : Votes) (game : IsVotes v) where
  module _ (one : length v.rules ≡ 1) (p x : ℕ) (pos : 0 < p) (le : p ≤ v.members) (lost : wins_at v (p - 1) (x / 2) ≡ false) where
    one-loses : (q : ℕ) → q < v.members → has v.members q (x * 2 ^ (v.members - p)) ≡ true
        → wins v (without v.members q (x * 2 ^ (v.members - p))) ≡ false
    unfolding wins wins_at has without
    one-loses q below in' =
        let r : RuleView = rule_at v.rules 0 in
        let is : IsRule v.members r = rule-is v 0 game (omega (arith, one)) in
        let before = place-before v.members p x q le below in' in
        let less = rw is.full at (weight-without r.weights q (x * 2 ^ (v.members - p)) (omega (arith, below, is.full)) (rw is.full (eqb-true _ _ in'))) in
        let more = weight-step is (p - 1) p (x / 2) x (x % 2) (omega (arith, pos, le)) (omega (arith, pos)) (omega arith) (omega arith) in
        let most : x % 2 * get_or r.weights (p - 1) 0 ≤ 1 * get_or r.weights (p - 1) 0 = mul-le _ _ _ _ (omega arith) (omega arith) in
        let ranked = first-ranked v.rules (game.ranked one) one q (p - 1) (omega (arith, before)) (omega (arith, is.full, le, pos)) in
        let short = sym (rule-passes v game (meets_at (p - 1) (x / 2)) one) ∙ lost in
        let whole = weight-block is p x le in
        rule-passes v game (meets_quota (without v.members q (x * 2 ^ (v.members - p)))) one ∙ lt-leb _ _ (omega (arith, leb-false _ _ short, less, more, most, whole, ranked))

    pub one-minimal : wins_at v p x ≡ true → minimal v (x * 2 ^ (v.members - p)) ≡ true
    one-minimal won = (needs-each-member v (x * 2 ^ (v.members - p))).1 (wins-prefix v game p x le ∙ won, one-loses)

  -- a prefix that wins first by its last place has that place in it
  pub won-odd : (p x : ℕ) → 0 < p → p ≤ v.members → wins_at v p x ≡ true → wins_at v (p - 1) (x / 2) ≡ false → x % 2 ≡ 1
  won-odd p x pos le won lost = grind (arith, cases_lt, both_ways, wins-over v game)

  -- no places win nothing
  pub empty-loses : wins_at v 0 0 ≡ false
  unfolding wins_at
  empty-loses =
      ways-none (length v.rules) (λ i. meets_at 0 0 (rule_at v.rules i)) v.ways (λ i lt.
      let rule = rule-is v i game lt in
      lt-leb _ _ (omega (arith, rule.some, weight-zero (take 0 (rule_at v.rules i).weights)))) (ways-some (length v.rules) v.ways game.ways).2

-- a slice is shorter than a count of visits can grow
pub slice-short : (v : Votes) (k j : ℕ) → IsVotes v → length (slice v k j) ≤ 2 ^ 40
unfolding slice
slice-short v k j game = grind (arith, count_by-le-length, length-filter, listing-is, pow_mono)

-- a winning prefix as a number of the slice
pub in-slice : (n k p x : ℕ) → k ≤ p → p ≤ n → x * 2 ^ (n - p) / 2 ^ (n - k) ≡ x / 2 ^ (p - k)
in-slice n k p x low high =
    let e : n - k ≡ (n - p) + (p - k) = omega arith in rw (e, ← shr-shr (x * 2 ^ (n - p)) (n - p) (p - k), shl-shr x (n - p)) refl
