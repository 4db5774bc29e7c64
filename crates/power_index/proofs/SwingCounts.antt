-- Swings from the counts of the winning coalitions: one with a member is a swing of it, or wins
-- without it too.
use Rattle.std.proofs.Common.{◌≡◌, ◌∙◌, ℕ, ◌+◌, ◌-◌, ◌*◌, ◌^◌, ◌<◌, ◌≤◌, ◌==◌, ◌&&◌, Bool, true, false, not, cond, length, filter, sum_by, get_or}
use Rattle.std.proofs.Common.{sym, ap, arith, inl, inr}
use Rattle.std.proofs.lemmas.{Bool.Decides.nat_tests, Bool.cases_eq, Bool.cases_Bool, List.Sums.length-filter}
use Rattle.council_game.specs.Coalitions.{has, size, without}
use Rattle.council_game.proofs.Shared.{Digits.has-kept, Sums.sum-zero}
use Rattle.council_game.specs.{Game.GameView, Game.IsGame, Game.votes_of, Votes.down, Votes.wins}
use Rattle.council_game.proofs.Shared.{Games.votes-are, Making.ranks-are, Sets.count-both, Subsets.digits-less, Subsets.wins-mono}
use Rattle.power_index.specs.Counting.{contains, count_of_member, count_of_member_size, count_of_size, size_of}
use Rattle.power_index.specs.{Swings.is_critical, Swings.swings, Swings.swings_of_size, Swings.winning_coalitions}
use Rattle.power_index.proofs.Shared.Sums.{length-filter-le}
use Rattle.power_index.specs.Tables.{Tables, table_of_member, table_of_member_size, table_of_size, table_total}
use Rattle.power_index.specs.Swings.{AreWinningCounts}
use Rattle.power_index.proofs.Flips.{and-swap, counted, counted-same, counted-split, flipped, size-less}

module _ (g : GameView) (game : IsGame g) (i : ℕ) (lt : i < length g.names) where
  abbrev n : ℕ
  n = length g.names

  abbrev p : ℕ
  p = get_or g.ranks i 0

  abbrev won : ℕ → Bool
  won c = wins (votes_of g) c

  place : p < n
  place = (ranks-are g game).place_below i lt

  larger-wins : (c : ℕ) → has n p c ≡ true → won (without n p c) ≡ true → won c ≡ true
  larger-wins c inside less =
      wins-mono (votes_of g) (without n p c) c (votes-are g game)
      (digits-less n (without n p c) c (λ q below within. elim (cases_eq q p) [
        | inl same ↦ ap (λ (k : ℕ). has n k c) same ∙ inside
        | inr other ↦ sym (has-kept n q p c below place other inside) ∙ within
      ])) less

  -- winning coalitions with the member, of sizes that pass a test
  with-member : (test : ℕ → Bool) → counted n (λ c. won c && (has n p c && test (size n c)))
      ≡ counted n (λ c. is_critical g c i && test (size n c)) + counted n (λ c. not (has n p c) && (won c && test (size n c + 1)))
  with-member test =
      counted-split n (λ c. won c && (has n p c && test (size n c))) (λ c. is_critical g c i && test (size n c))
      (λ c. has n p c && (won (without n p c) && test (size n (without n p c) + 1)))
      (λ c _. elim (cases_Bool (has n p c)) [
        | inl inside ↦ grind (arith, nat_tests, inside, larger-wins c inside, ap test (size-less n p place c inside))
        | inr out ↦ grind (arith, nat_tests, out)
      ])
      ∙ ap (λ (k : ℕ). counted n (λ c. is_critical g c i && test (size n c)) + k) (flipped n p place (λ c. won c && test (size n c + 1)))

  -- and all winning coalitions
  with-and-without : (test : ℕ → Bool) → counted n (λ c. won c && test (size n c))
      ≡ counted n (λ c. won c && (has n p c && test (size n c))) + counted n (λ c. not (has n p c) && (won c && test (size n c)))
  with-and-without test =
      counted-split n (λ c. won c && test (size n c)) (λ c. won c && (has n p c && test (size n c)))
      (λ c. not (has n p c) && (won c && test (size n c))) (λ c _. grind (arith, nat_tests))

  pub swings-of-size : (s : ℕ) → swings_of_size g i (s + 1) + count_of_size g s (winning_coalitions g)
      ≡ count_of_member_size g i (s + 1) (winning_coalitions g) + count_of_member_size g i s (winning_coalitions g)
  unfolding swings_of_size winning_coalitions
  swings-of-size s =
      let all = down (2 ^ n) in
      let next = counted-same n (λ c. not (has n p c) && (won c && (size n c + 1 == s + 1))) (λ c. not (has n p c) && (won c && (size n c == s)))
      (λ c _. grind (arith, nat_tests)) in
      omega (
        arith,
        length-filter (λ c. is_critical g c i && (size n c == s + 1)) all,
        count-both won (λ c. size n c == s) all,
        count-both won (λ c. has n p c && (size n c == s + 1)) all,
        count-both won (λ c. has n p c && (size n c == s)) all,
        with-member (λ k. k == s + 1),
        with-and-without (λ k. k == s),
        next,
      )

  pub no-swing-of-size-0 : swings_of_size g i 0 ≡ 0
  unfolding swings_of_size
  no-swing-of-size-0 =
      length-filter (λ c. is_critical g c i && (size n c == 0)) (down (2 ^ n))
      ∙ counted-same n (λ c. is_critical g c i && (size n c == 0)) (λ c. false) (λ c _. elim (cases_Bool (has n p c)) [
        | inl inside ↦ grind (arith, nat_tests, size-less n p place c inside)
        | inr out ↦ grind (arith, nat_tests, out)
      ])
      ∙ sum-zero (down (2 ^ n))

  pub swings-are : swings g i + length (winning_coalitions g) ≡ 2 * count_of_member g i (winning_coalitions g)
  unfolding swings winning_coalitions
  swings-are =
      let all = down (2 ^ n) in
      let crit = counted-same n (λ c. is_critical g c i && true) (λ c. is_critical g c i) (λ c _. grind (arith, nat_tests)) in
      let wide = counted-same n (λ c. won c && true) won (λ c _. grind (arith, nat_tests)) in
      let within = counted-same n (λ c. won c && (has n p c && true)) (λ c. won c && has n p c) (λ c _. grind (arith, nat_tests)) in
      omega (
        arith,
        length-filter (λ c. is_critical g c i) all,
        length-filter won all,
        count-both won (λ c. has n p c) all,
        with-member (λ k. true),
        with-and-without (λ k. true),
        crit,
        wide,
        within,
      )

-- ---- from the tables of a game's winning coalitions
pub swings-in-tables : (g : GameView) (t : Tables) (i : ℕ) → IsGame g → AreWinningCounts g t → i < t.members
    → swings g i + table_total t ≡ 2 * table_of_member t i
swings-in-tables g t i game are lt = omega (arith, swings-are g game i (omega (arith, lt, are.members)), are.total, are.of_member i lt)

pub sizes-in-tables : (g : GameView) (t : Tables) (i s : ℕ) → IsGame g → AreWinningCounts g t → i < t.members → 1 ≤ s → s ≤ t.members
    → swings_of_size g i s + table_of_size t (s - 1) ≡ table_of_member_size t i s + table_of_member_size t i (s - 1)
sizes-in-tables g t i s game are lt some le =
    let next : s - 1 + 1 ≡ s = omega (arith, some) in
    let within = swings-of-size g game i (omega (arith, lt, are.members)) (s - 1) in
    omega (arith, rw next at within, are.of_size (s - 1) (omega (arith, le)), are.of_member_size i s lt le, are.of_member_size i (s - 1) lt (omega (arith, le)))

-- of the coalitions of a size, at most all have the member
pub fewer-in-tables : (g : GameView) (t : Tables) (i s : ℕ) → AreWinningCounts g t → i < t.members → s ≤ t.members
    → table_of_member_size t i s ≤ table_of_size t s
fewer-in-tables g t i s are lt le =
    let list = winning_coalitions g in
    let small : ℕ → Bool = λ c. size_of g c == s in
    let swap : sum_by (λ c. cond (small c && contains g i c) 1 0) list ≡ sum_by (λ c. cond (contains g i c && small c) 1 0) list =
    (λ k. sum_by (λ c. cond (and-swap (small c) (contains g i c) k) 1 0) list) in
    omega (
      arith,
      are.of_size s le,
      are.of_member_size i s lt le,
      count-both small (contains g i) list,
      length-filter-le (contains g i) (filter small list),
      length-filter (λ c. contains g i c && small c) list,
      swap,
    )

pub none-of-size-0 : (g : GameView) (t : Tables) (i : ℕ) → IsGame g → AreWinningCounts g t → i < t.members → swings_of_size g i 0 ≡ 0
none-of-size-0 g t i game are lt = no-swing-of-size-0 g game i (omega (arith, lt, are.members))
