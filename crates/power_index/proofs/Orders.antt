-- The Shapley-Shubik indices of all members add up to 1: each order of the members has one swing.
use Rattle.std.proofs.Common.{◌≡◌, ◌∙◌, ℕ, zero, suc, ◌+◌, ◌-◌, ◌*◌, ◌^◌, ◌<◌, ◌≤◌, ◌==◌, ◌&&◌, Bool, true, false, cond, List, [], ◌∷◌, length, filter, sum_by, get_or}
use Rattle.std.proofs.Common.{refl, sym, ap, arith, inl, inr}
use Rattle.std.specs.List.{range_with_len}
use Rattle.std.proofs.lemmas.{Bool.Decides.nat_tests, Bool.cases_eq, Bool.cases_Bool, List.Sums.length-filter, List.Sums.sum_by-cons, List.Sums.get_or-le-sum_by, List.Elements.Contains-get_or}
use Rattle.std.proofs.lemmas.List.FromFn.{length-range_with_len}
use Rattle.council_game.specs.Coalitions.{has, size, with_member, without}
use Rattle.council_game.proofs.Shared.{Digits.same-places, Sums.sum-plus, Sums.sum-zero, Sums.filter-both}
use Rattle.council_game.specs.{Game.GameView, Game.IsGame, Game.votes_of, Votes.down, Votes.wins, Votes.minimal_coalitions, Members.members, Members.contains, Members.size_of}
use Rattle.council_game.proofs.Shared.{Games.few-members, Games.votes-are, Listing.listed-is, Meanings.needs-each-member, Rankings.places-at, Sets.count-both}
use Rattle.council_game.proofs.Shared.{Sets.mask_of, Sets.mask-below, Sets.mask-has, Sets.sum-one, Sets.sum-none, Sets.sum-range, Subsets.digits-less, Subsets.wins-mono}
use Rattle.power_index.specs.Counting.{count_of_member, count_of_member_size, count_of_size}
use Rattle.power_index.proofs.Shared.{Members.memberships, Members.size-le, Members.size-pos, Minimal.minimal-some, Sums.sum-times}
use Rattle.power_index.specs.{SwingIndices.factorial, SwingIndices.shapley_shubik, Swings.swings_of_size, Swings.winning_coalitions}
use Rattle.power_index.proofs.{SwingCounts.swings-of-size, Flips.and-swap, Flips.added-has, Flips.size-less, Shared.Winning.none-wins}

-- ---- the coalition of all members, and the empty one
module _ (n : ℕ) where
  abbrev full : ℕ
  full = mask_of (λ p. true) n

  full-size : size n full ≡ n
  full-size =
      length-filter (λ q. has n q full) (range_with_len 0 n)
      ∙ sum-range (λ q. cond (has n q full) 1 0) (λ q. 1) 0 n (λ q _ lt. grind (arith, nat_tests, mask-has (λ p. true) n q (omega (arith, lt))))
      ∙ ones 0 n
    where
      ones : (a m : ℕ) → sum_by (λ (q : ℕ). 1) (range_with_len a m) ≡ m
      ones a zero = refl
      ones a (suc m) = omega (arith, sum_by-cons (λ (q : ℕ). 1) a (range_with_len (a + 1) m), ones (a + 1) m)

  taken-back : (c p : ℕ) → without n p (with_member n p c) ≡ c
  unfolding with_member without
  taken-back c p = omega arith

  all-in : (c p : ℕ) → p < n → size n c ≡ n → has n p c ≡ true
  all-in c p lt whole = elim (cases_Bool (has n p c)) [
    | inl inside ↦ inside
    | inr out ↦
        let more = size-less n p lt (with_member n p c) (added-has n p lt c out) in
        absurd (omega (arith, more, size-le n (with_member n p c), whole, ap (size n) (taken-back c p)))
  ]

  only-full : (c : ℕ) → c < 2 ^ n → size n c ≡ n → c ≡ full
  only-full c lt whole = same-places n c full lt (mask-below (λ p. true) n) (λ p below. all-in c p below whole ∙ sym (mask-has (λ p. true) n p below))

-- ---- sums
sum-of-size : (f : ℕ → ℕ) (s : ℕ) (cs : List ℕ) → sum_by f (filter (λ c. f c == s) cs) ≡ s * length (filter (λ c. f c == s) cs)
sum-of-size f s [] = omega arith
sum-of-size f s (c ∷ cs) = elim (cases_eq (f c) s) [
  | inl same ↦
      let at : (f c == s) ≡ true = grind (arith, nat_tests, same) in
      rw at (rw (sum_by-cons f c (filter (λ d. f d == s) cs)) (omega (arith, same, sum-of-size f s cs)))
  | inr other ↦ let at : (f c == s) ≡ false = grind (arith, nat_tests, other) in rw at (sum-of-size f s cs)
]

pub sum-last : (f : ℕ → ℕ) (a m : ℕ) → sum_by f (range_with_len a (suc m)) ≡ sum_by f (range_with_len a m) + f (a + m)
sum-last f a zero = omega (arith, sum_by-cons f a [], ap f (let e : a + 0 ≡ a = omega arith in e))
sum-last f a (suc m) =
    let at : a + 1 + m ≡ a + suc m = omega arith in
    omega (
      arith,
      sum_by-cons f a (range_with_len (a + 1) (suc m)),
      sum_by-cons f a (range_with_len (a + 1) m),
      sum-last f (a + 1) m,
      ap f at,
    )

weigh : (all w next s d before after : ℕ) → all + suc d * w ≡ suc s * next
    → all * (before * after) + before * (suc d * after) * w ≡ suc s * before * after * next
weigh all w next s d before after same = omega (arith, ap (λ (k : ℕ). k * (before * after)) same)

module _ (g : GameView) (game : IsGame g) where
  abbrev n : ℕ
  n = length g.names

  abbrev list : List ℕ
  list = winning_coalitions g

  abbrev won : ℕ → Bool
  won c = wins (votes_of g) c

  full-wins : won (full n) ≡ true
  full-wins =
      let minimal : List ℕ = minimal_coalitions (votes_of g) in
      let c : ℕ = get_or minimal 0 0 in
      let are = (listed-is (votes_of g) c).0 (Contains-get_or minimal 0 0 (minimal-some g game)) in
      wins-mono (votes_of g) c (full n) (votes-are g game) (digits-less n c (full n) (λ p lt _. mask-has (λ p. true) n p lt))
      ((needs-each-member (votes_of g) c).0 are.1).0

  pub one-of-all : count_of_size g n list ≡ 1
  unfolding winning_coalitions
  one-of-all =
      count-both won (λ c. size n c == n) (down (2 ^ n))
      ∙ sum-one (λ c. cond (won c && (size n c == n)) 1 0) (full n) (2 ^ n) (mask-below (λ p. true) n)
      (λ c lt other. grind (arith, nat_tests, only-full n c lt))
      ∙ grind (arith, nat_tests, full-wins, full-size n)

  pub none-of-0 : count_of_size g 0 list ≡ 0
  unfolding winning_coalitions
  none-of-0 =
      count-both won (λ c. size n c == 0) (down (2 ^ n))
      ∙ sum-none (λ c. cond (won c && (size n c == 0)) 1 0) (2 ^ n) (λ c lt. elim (cases_eq c 0) [
        | inl empty ↦ grind (arith, nat_tests, none-wins g game, ap won empty)
        | inr some ↦ grind (arith, nat_tests, size-pos n c (few-members g game))
      ])

  -- members of the winning coalitions of a size, counted by member or by coalition
  members-of-size : (s : ℕ) → sum_by (λ i. count_of_member_size g i s list) (members g) ≡ s * count_of_size g s list
  members-of-size s =
      let small : ℕ → Bool = λ c. size_of g c == s in
      let some : List ℕ = filter small list in
      (λ k. sum_by (λ i. own i k) (members g)) ∙ memberships g some game ∙ sum-of-size (size_of g) s list
    where
      own : (i : ℕ) → count_of_member_size g i s list ≡ count_of_member g i (filter (λ c. size_of g c == s) list)
      own i =
          (λ k. length (filter (λ c. and-swap (contains g i c) (size_of g c == s) k) list))
          ∙ ap (λ (l : List ℕ). length l) (sym (filter-both (λ c. size_of g c == s) (contains g i) list))

  -- the orders in which a member's swing of size s is made: s - 1 members come before it
  abbrev orders : ℕ → ℕ
  orders s = factorial (s - 1) * factorial (n - s)

  -- one size more: the swings of all members
  all-of-size : (s : ℕ) → s < n → sum_by (λ i. swings_of_size g i (s + 1)) (members g) + (n - s) * count_of_size g s list ≡ (s + 1) * count_of_size g (s + 1) list
  all-of-size s lt =
      let each = sum-range (λ i. swings_of_size g i (s + 1) + count_of_size g s list)
      (λ i. count_of_member_size g i (s + 1) list + count_of_member_size g i s list) 0 n (λ i _ below. swings-of-size g game i (omega (arith, below)) s) in
      let left = sum-plus (λ i. swings_of_size g i (s + 1)) (λ i. count_of_size g s list) (members g) in
      let right = sum-plus (λ i. count_of_member_size g i (s + 1) list) (λ i. count_of_member_size g i s list) (members g) in
      let same = same-sum (count_of_size g s list) 0 n in
      let apart : n * count_of_size g s list ≡ (n - s) * count_of_size g s list + s * count_of_size g s list =
      (let parts : n ≡ n - s + s = omega (arith, lt) in ap (λ (k : ℕ). k * count_of_size g s list) parts ∙ omega arith) in
      omega (arith, each, left, right, same, apart, members-of-size (s + 1), members-of-size s)
    where
      same-sum : (v a m : ℕ) → sum_by (λ (i : ℕ). v) (range_with_len a m) ≡ m * v
      same-sum v a zero = omega arith
      same-sum v a (suc m) = omega (arith, sum_by-cons (λ (i : ℕ). v) a (range_with_len (a + 1) m), same-sum v (a + 1) m)

  -- of one size more: each swing, in the orders that make it
  weighted-of-size : (s : ℕ) → s < n → sum_by (λ i. swings_of_size g i (s + 1) * orders (s + 1)) (members g) + factorial s * factorial (n - s) * count_of_size g s list
      ≡ factorial (s + 1) * factorial (n - (s + 1)) * count_of_size g (s + 1) list
  unfolding factorial
  weighted-of-size s lt =
      let d : ℕ = n - (s + 1) in
      let one : n - s ≡ suc d = omega (arith, lt) in
      let next : s + 1 ≡ suc s = omega arith in
      let all = all-of-size s lt in
      let first : orders (s + 1) ≡ factorial s * factorial d = ap (λ (k : ℕ). factorial k * factorial d) (let e : s + 1 - 1 ≡ s = omega arith in e) in
      let same = weigh (sum_by (λ i. swings_of_size g i (s + 1)) (members g)) (count_of_size g s list) (count_of_size g (s + 1) list) s d (factorial s) (factorial d)
      (ap (λ (k : ℕ). sum_by (λ i. swings_of_size g i (s + 1)) (members g) + k * count_of_size g s list) (sym one) ∙ all ∙ ap (λ (k : ℕ). k * count_of_size g (s + 1) list) next) in
      let more : factorial (n - s) ≡ suc d * factorial d = ap factorial one in
      let most : factorial (s + 1) ≡ suc s * factorial s = ap factorial next in
      let sum = sum-times (λ i. swings_of_size g i (s + 1)) (orders (s + 1)) (members g) in
      (λ k. (sum ∙ ap (λ (v : ℕ). sum_by (λ i. swings_of_size g i (s + 1)) (members g) * v) first) k + factorial s * more k * count_of_size g s list)
      ∙ same ∙ sym (λ k. most k * factorial d * count_of_size g (s + 1) list)

  -- the swings of the sizes 1 to m of all members, in the orders that make them
  telescoped : (m : ℕ) → m ≤ n → sum_by (λ i. sum_by (λ s. swings_of_size g i s * orders s) (range_with_len 1 m)) (members g)
      ≡ factorial m * factorial (n - m) * count_of_size g m list
  telescoped zero le = sum-zero (members g) ∙ omega (arith, ap (λ (k : ℕ). factorial 0 * factorial (n - 0) * k) none-of-0)
  telescoped (suc m) le =
      let term : ℕ → ℕ → ℕ = λ i s. swings_of_size g i s * orders s in
      let next : suc m ≡ m + 1 = omega arith in
      let at : 1 + m ≡ m + 1 = omega arith in
      (λ k. sum_by (λ i. sum-last (term i) 1 m k) (members g))
      ∙ sum-plus (λ i. sum_by (term i) (range_with_len 1 m)) (λ i. term i (1 + m)) (members g)
      ∙ (λ k. telescoped m (omega (arith, le)) k + sum_by (λ i. term i (at k)) (members g))
      ∙ omega (arith, weighted-of-size m (omega (arith, le)))
      ∙ (λ k. factorial (sym next k) * factorial (n - sym next k) * count_of_size g (sym next k) list)

  pub shapley-total : sum_by (λ i. (shapley_shubik g i).0) (members g) ≡ factorial n
  unfolding shapley_shubik factorial
  shapley-total =
      let none : n - n ≡ 0 = omega arith in
      telescoped n (omega arith) ∙ (λ k. factorial n * factorial (none k) * one-of-all k) ∙ last
    where
      last : factorial n * 1 * 1 ≡ factorial n
      last = omega arith

  pub shapley-within : (i : ℕ) → i < n → (shapley_shubik g i).0 ≤ factorial n
  shapley-within i lt =
      let long = length-range_with_len 0 n in
      let top : ℕ → ℕ = λ j. (shapley_shubik g j).0 in
      omega (arith, shapley-total, get_or-le-sum_by top (range_with_len 0 n) i 0 (omega (arith, lt, long)), ap top (places-at n i 0 lt))
