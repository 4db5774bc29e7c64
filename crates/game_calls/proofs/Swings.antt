-- Swings of the members of minimal winning coalitions, and of vetoers.
use Rattle.std.proofs.Common.{◌≡◌, ◌∙◌, ◌==◌, ◌&&◌, ◌↔◌, ℕ, ◌^◌, ◌<◌, Bool, true, cond, List, length, filter, get_or, sym, ap}
use Rattle.std.proofs.Common.{arith, false}
use Rattle.std.proofs.lemmas.{Bool.Decides.nat_tests, List.Elements.All-filter, List.Elements.filter_passes}
use Rattle.std.proofs.lemmas.List.Sums.{length-filter, sum_by-le-sum_by}
use Rattle.std.proofs.lemmas.Bool.{and_from, and_parts, both_ways, cases_eq, true_from_ne_false}
use Rattle.council_game.specs.Coalitions.{without}
use Rattle.council_game.proofs.Shared.{Digits.has-gone, Sums.filter-both}
use Rattle.council_game.specs.{Game.GameView, Game.IsGame, Game.votes_of, Members.contains, Votes.down, Votes.minimal, Votes.minimal_coalitions, Votes.wins}
use Rattle.council_game.proofs.Shared.{Listing.down-below, Listing.listed-is, Sets.needs-members, Sets.sum-down, Sets.sum-one, Sets.without-contains}
use Rattle.power_index.specs.Counting.{count_of_member}
use Rattle.power_index.specs.{Swings.is_critical, Swings.swings, Swings.winning_coalitions}
use Rattle.game_calls.specs.Winning.{IsVetoer}
use Rattle.game_calls.proofs.Minimal.{larger_wins-of, minimal_subsets-of}

-- what it is to be critical
pub critical-is : (g : GameView) (c i : ℕ) → is_critical g c i ≡ true → (contains g i c ≡ true) × (wins (votes_of g) c ≡ true)
    × (wins (votes_of g) (without (length g.names) (get_or g.ranks i 0) c) ≡ false)
critical-is g c i critical = grind (arith, nat_tests)

-- ---- a vetoer is critical in all that win
pub without-below : (n p c : ℕ) → c < 2 ^ n → without n p c < 2 ^ n
unfolding without
without-below n p c below = omega (arith, below)

critical-in-all : (g : GameView) (i : ℕ) → IsVetoer g i → (c : ℕ) → c < 2 ^ length g.names → is_critical g c i ≡ wins (votes_of g) c
critical-in-all g i needed c below =
    let less : ℕ = without (length g.names) (get_or g.ranks i 0) c in
    grind (arith, nat_tests, needed c below, needed less (without-below _ _ c below), has-gone (length g.names) (get_or g.ranks i 0) c)

pub vetoer_swings : (g : GameView) (i : ℕ) → IsVetoer g i → swings g i ≡ length (winning_coalitions g)
unfolding swings winning_coalitions
vetoer_swings g i needed =
    let n : ℕ = length g.names in
    let won : ℕ → Bool = wins (votes_of g) in
    length-filter (λ c. is_critical g c i) (down (2 ^ n))
    ∙ sum-down (λ c. cond (is_critical g c i) 1 0) (λ c. cond (won c) 1 0) (2 ^ n)
    (λ c below. ap {B = ℕ} (λ (b : Bool). cond b 1 0) (critical-in-all g i needed c below))
    ∙ sym (length-filter won (down (2 ^ n)))

-- ---- a member with a swing is in some minimal winning coalition
some-passes : (test : ℕ → Bool) (n : ℕ) → 0 < length (filter test (down n)) → (c : ℕ) × (c < n) × (test c ≡ true)
some-passes test n some = (
  get_or (filter test (down n)) 0 0,
  All-filter test (λ c. c < n) (down n) (down-below n n (omega arith)) 0 0 some,
  filter_passes test (down n) 0 0 some,
)

one-passes : (test : ℕ → Bool) (c n : ℕ) → c < n → test c ≡ true → 0 < length (filter test (down n))
one-passes test c n lt here =
    let one : ℕ → ℕ = λ d. cond (d == c) 1 0 in
    let only = sum-one one c n lt (λ d _ other. grind (arith, nat_tests, other)) in
    let passes = sum_by-le-sum_by one (λ d. cond (test d) 1 0) (down n) (λ d. grind (arith, nat_tests, here)) in
    grind (arith, nat_tests, length-filter test (down n))

pub in_some : (g : GameView) → IsGame g → (i : ℕ) → i < length g.names
    → (0 < swings g i) ↔ (0 < count_of_member g i (minimal_coalitions (votes_of g)))
unfolding swings minimal_coalitions
in_some g is i li =
    let n : ℕ = length g.names in
    let critical : ℕ → Bool = λ c. is_critical g c i in
    let needed : ℕ → Bool = λ c. minimal (votes_of g) c && contains g i c in
    let same = ap (λ (l : List ℕ). length l) (filter-both (minimal (votes_of g)) (contains g i) (down (2 ^ n))) in (
      λ some.
          let found = some-passes critical (2 ^ n) some in
          let here = critical-is g found.0 i found.2 in
          let m = minimal_subsets-of g is found.0 found.1 here.1 in
          let are = (listed-is (votes_of g) m.subset).0 m.listed in
          let inside = true_from_ne_false (contains g i m.subset) (λ out. both_ways _ here.2
          (larger_wins-of g is m.subset (without n (get_or g.ranks i 0) found.0)
          (λ k lk there. without-contains g is found.0 i k li lk here.0 ∙ grind (arith, nat_tests, cases_eq k i, out, there, m.inside k lk there))
          (needs-members g is m.subset are.1).0)) in
          omega (arith, same, one-passes needed m.subset (2 ^ n) are.0 (and_from _ _ are.1 inside)),
      λ some.
          let found = some-passes needed (2 ^ n) (omega (arith, same, some)) in
          let parts = and_parts _ _ found.2 in
          let loses = needs-members g is found.0 parts.0 in
          one-passes critical found.0 (2 ^ n) found.1 (grind (arith, nat_tests, parts, loses.0, loses.1 i li parts.1)),
    )
