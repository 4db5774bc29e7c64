-- How many winning coalitions and swings there are.
use Rattle.std.proofs.Common.{◌≡◌, ◌∙◌, ℕ, zero, suc, ◌+◌, ◌-◌, ◌*◌, ◌^◌, ◌<◌, ◌≤◌, ◌&&◌, Bool, true, not, cond, List, length, sum_by, get_or}
use Rattle.std.proofs.Common.{refl, ap, arith, w64, inl, inr}
use Rattle.std.specs.{List.range_with_len, Int.trailing_zeros}
use Rattle.std.proofs.lemmas.{Bool.Decides.nat_tests, Bool.cases_eq, List.Sums.sum_by-cons, List.Sums.length-filter, List.Elements.Contains-get_or, List.Sums.get_or-le-sum_by}
use Rattle.std.proofs.lemmas.List.FromFn.{length-range_with_len}
use Rattle.council_game.specs.Coalitions.{has}
use Rattle.council_game.proofs.Shared.Digits.{lowest-place}
use Rattle.council_game.specs.{Game.GameView, Game.IsGame, Game.votes_of, Votes.down, Votes.minimal_coalitions, Ranks.member_at}
use Rattle.council_game.proofs.Shared.{Games.few-members, Making.ranks-are, Rankings.places-at, Sets.count-both, Sets.double-pow, Listing.listed-is, Sets.needs-members}
use Rattle.power_index.proofs.Shared.{Minimal.minimal-are-coalitions, Minimal.minimal-some}
use Rattle.power_index.specs.{Swings.is_critical, Swings.all_swings, Swings.swings, Swings.winning_coalitions}
use Rattle.council_game.specs.{Votes.wins, Members.contains}
use Rattle.power_index.specs.Counting.{count_of_member}
use Rattle.power_index.proofs.Shared.Sums.{length-filter-le}
use Rattle.power_index.proofs.SwingCounts.{swings-are}
use Rattle.power_index.proofs.Flips.{counted, counted-same, counted-split, flipped}

-- a coalition that passes a test is one of those that do
down-has : (test : ℕ → Bool) (n c : ℕ) → c < n → test c ≡ true → 1 ≤ sum_by (λ d. cond (test d) 1 0) (down n)
unfolding down
down-has test zero c lt here = absurd (omega arith)
down-has test (suc n) c lt here =
    let more = sum_by-cons (λ d. cond (test d) 1 0) n (down n) in elim (cases_eq c n) [
      | inl same ↦ grind (arith, nat_tests, more, ap test same)
      | inr other ↦ omega (arith, more, down-has test n c (omega (arith, lt, other)) here)
    ]

all-down : (n : ℕ) → sum_by (λ c. 1) (down n) ≡ n
unfolding down
all-down zero = refl
all-down (suc n) = omega (arith, sum_by-cons (λ c. 1) n (down n), all-down n)

-- as many coalitions have a place as do not
half : (n p : ℕ) → p < n → 2 * counted n (λ c. has n p c) ≡ 2 ^ n
half n p lt =
    let all = counted-split n (λ c. true) (λ c. has n p c && true) (λ c. not (has n p c) && true) (λ c _. grind (arith, nat_tests)) in
    let same = counted-same n (λ c. has n p c && true) (λ c. has n p c) (λ c _. grind (arith, nat_tests)) in
    omega (arith, all, flipped n p lt (λ c. true), same, all-down (2 ^ n))

module _ (g : GameView) (game : IsGame g) where
  abbrev n : ℕ
  n = length g.names

  -- a member of a minimal winning coalition has a swing
  some-swing : (i : ℕ) × (i < n) × (1 ≤ swings g i)
  unfolding swings
  some-swing =
      let list : List ℕ = minimal_coalitions (votes_of g) in
      let c : ℕ = get_or list 0 0 in
      let some : 0 < length list = minimal-some g game in
      let are = (listed-is (votes_of g) c).0 (Contains-get_or list 0 0 some) in
      let nonempty = minimal-are-coalitions g game 0 0 some in
      let at = lowest-place n c (few-members g game) nonempty.0 are.0 in
      let ranks = ranks-are g game in
      let p : ℕ = n - 1 - trailing_zeros w64 c in
      let below : p < n = omega (arith, at.0) in
      let i : ℕ = member_at g.ranks p in
      let inside : has n (get_or g.ranks i 0) c ≡ true = ap (λ (q : ℕ). has n q c) (ranks.place_back p below) ∙ at.1 in
      let needed = needs-members g game c are.1 in
      let lost = needed.1 i (ranks.member_below p below) inside in
      let critical : is_critical g c i ≡ true = grind (arith, nat_tests, needed.0, lost, inside) in (
        i,
        ranks.member_below p below,
        omega (arith, length-filter (λ d. is_critical g d i) (down (2 ^ n)), down-has (λ d. is_critical g d i) (2 ^ n) c are.0 critical),
      )

  pub all-some : 1 ≤ all_swings g
  all-some =
      let some = some-swing in
      let long = length-range_with_len 0 n in
      let at = get_or-le-sum_by (swings g) (range_with_len 0 n) some.0 0 (omega (arith, some.1, long)) in
      omega (arith, at, ap (swings g) (places-at n some.0 0 some.1), some.2)

  pub swings-of-all : (i : ℕ) → i < n → swings g i ≤ all_swings g
  swings-of-all i lt =
      let long = length-range_with_len 0 n in
      omega (arith, get_or-le-sum_by (swings g) (range_with_len 0 n) i 0 (omega (arith, lt, long)), ap (swings g) (places-at n i 0 lt))

  module _ (i : ℕ) (lt : i < n) where
    -- at most half of all coalitions win with the member
    winning-with : 2 * count_of_member g i (winning_coalitions g) ≤ 2 ^ n
    unfolding winning_coalitions
    winning-with =
        let won : ℕ → Bool = wins (votes_of g) in
        let p : ℕ = get_or g.ranks i 0 in
        let parts = counted-split n (λ c. has n p c) (λ c. won c && has n p c) (λ c. not (won c) && has n p c) (λ c _. grind (arith, nat_tests)) in
        omega (arith, count-both won (has n p) (down (2 ^ n)), parts, half n p ((ranks-are g game).place_below i lt))

    pub swings-of-losing : swings g i + length (winning_coalitions g) ≤ 2 ^ n
    swings-of-losing = omega (arith, swings-are g game i lt, winning-with)

    pub swings-of-winning : swings g i ≤ length (winning_coalitions g)
    swings-of-winning = omega (arith, swings-are g game i lt, length-filter-le (contains g i) (winning_coalitions g))

    pub swings-of-half : swings g i ≤ 2 ^ (n - 1)
    swings-of-half =
        let next : n ≡ suc (n - 1) = omega (arith, lt) in
        let double : 2 ^ n ≡ 2 * 2 ^ (n - 1) = ap (λ (k : ℕ). 2 ^ k) next ∙ omega (arith, double-pow (n - 1)) in
        omega (arith, double, swings-of-losing, swings-of-winning)

  pub some-win : 1 ≤ length (winning_coalitions g)
  some-win = let some = some-swing in omega (arith, some.2, swings-of-winning some.0 some.1)

  pub some-lose : length (winning_coalitions g) < 2 ^ n
  some-lose = let some = some-swing in omega (arith, some.2, swings-of-losing some.0 some.1)
