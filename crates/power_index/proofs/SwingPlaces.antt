-- Counts of winning coalitions, and swings, do not depend on names and places of members.
use Rattle.std.proofs.Common.{◌≡◌, ◌∙◌, ◌==◌, ◌&&◌, ℕ, zero, suc, ◌+◌, ◌-◌, ◌*◌, ◌^◌, ◌<◌, List, length, Bool, filter, sym, ap, arith, sum_by}
use Rattle.std.specs.List.{range_with_len}
use Rattle.std.proofs.lemmas.List.Sums.{length-filter}
use Rattle.council_game.specs.{Game.GameView, Game.IsGame, Game.votes_of, Members.contains, Members.members, Members.size_of, Votes.down, Votes.wins}
use Rattle.council_game.specs.Renaming.{AreSymmetric, HaveRenamedMembers, IsRenaming, exchanged}
use Rattle.council_game.proofs.Shared.{Renamed.as-many, Renamed.first-exchanged, Renamed.renamed-alike, Renamed.same, Renamed.same-renaming, Renamed.sum-renamed, Renamed.symmetric-renaming, Sets.count-both}
use Rattle.power_index.specs.Counting.{count_of_member, count_of_member_size, count_of_size}
use Rattle.power_index.specs.Tables.{Tables}
use Rattle.power_index.specs.SwingIndices.{banzhaf, factorial, penrose, power_to_initiate, power_to_prevent, shapley_shubik, swing_indices}
use Rattle.power_index.specs.Renaming.{HaveRenamedSwings}
use Rattle.power_index.specs.Swings.{AreWinningCounts, all_swings, swings, swings_of_size, winning_coalitions}
use Rattle.power_index.proofs.{SwingCounts.no-swing-of-size-0, SwingCounts.swings-are, SwingCounts.swings-of-size, Shared.Sums.sum-range}

module _ (to from : ℕ → ℕ) (g h : GameView) (is_g : IsGame g) (is_h : IsGame h) (r : IsRenaming to from g h) where
  -- as many winning coalitions pass a test of their members
  same-many : (p q : ℕ → Bool) → ((c d : ℕ) → HaveRenamedMembers to g h c d → p c ≡ q d)
      → length (filter p (winning_coalitions g)) ≡ length (filter q (winning_coalitions h))
  unfolding winning_coalitions
  same-many p q alike =
      let won = wins (votes_of g) in
      let also = wins (votes_of h) in
      count-both won p (down (2 ^ length g.names))
      ∙ as-many to from g h is_g is_h r (λ c. won c && p c) (λ d. also d && q d) (λ c d lc ld m k. r.win c d m k && alike c d m k)
      ∙ sym (count-both also q (down (2 ^ length h.names)))

  same-total : length (winning_coalitions g) ≡ length (winning_coalitions h)
  unfolding winning_coalitions
  same-total =
      length-filter (wins (votes_of g)) (down (2 ^ length g.names))
      ∙ as-many to from g h is_g is_h r (wins (votes_of g)) (wins (votes_of h)) (λ c d lc ld m. r.win c d m)
      ∙ sym (length-filter (wins (votes_of h)) (down (2 ^ length h.names)))

  same-of-size : (s : ℕ) → count_of_size g s (winning_coalitions g) ≡ count_of_size h s (winning_coalitions h)
  same-of-size s =
      let alike = renamed-alike to from g h is_g is_h r in
      same-many (λ c. size_of g c == s) (λ d. size_of h d == s) (λ c d m. ap (λ (n : ℕ). n == s) (alike.size c d m))

  same-of-member : (i : ℕ) → i < length g.names
      → count_of_member g i (winning_coalitions g) ≡ count_of_member h (to i) (winning_coalitions h)
  same-of-member i lt = same-many (contains g i) (contains h (to i)) (λ c d m. m i lt)

  same-of-member-size : (i s : ℕ) → i < length g.names
      → count_of_member_size g i s (winning_coalitions g) ≡ count_of_member_size h (to i) s (winning_coalitions h)
  same-of-member-size i s lt =
      let alike = renamed-alike to from g h is_g is_h r in
      same-many (λ c. contains g i c && (size_of g c == s)) (λ d. contains h (to i) d && (size_of h d == s))
      (λ c d m k. m i lt k && (alike.size c d m k == s))

  there : (i : ℕ) → i < length g.names → to i < length h.names
  there i lt = let below = r.inverse.to_below i lt in omega (arith, r.count, below)

  same-swings : (i : ℕ) → i < length g.names → swings g i ≡ swings h (to i)
  same-swings i lt =
      omega (arith, swings-are g is_g i lt, swings-are h is_h (to i) (there i lt), same-total, same-of-member i lt)

  same-swings-of-size : (i s : ℕ) → i < length g.names → swings_of_size g i s ≡ swings_of_size h (to i) s
  same-swings-of-size i zero lt = no-swing-of-size-0 g is_g i lt ∙ sym (no-swing-of-size-0 h is_h (to i) (there i lt))
  same-swings-of-size i (suc s) lt =
      let next : suc s ≡ s + 1 = omega arith in
      rw next (omega (
        arith,
        swings-of-size g is_g i lt s,
        swings-of-size h is_h (to i) (there i lt) s,
        same-of-size s,
        same-of-member-size i s lt,
        same-of-member-size i (s + 1) lt,
      ))

  same-all : all_swings g ≡ all_swings h
  same-all =
      sum-range _ (λ j. swings h (to j)) 0 (length g.names) (λ j _ below. same-swings j (omega (arith, below)))
      ∙ sum-renamed (swings h) to from (length g.names) r.inverse
      ∙ ap (λ (n : ℕ). sum_by (swings h) (range_with_len 0 n)) (sym r.count)

  same-shapley_shubik : (i : ℕ) → i < length g.names → shapley_shubik g i ≡ shapley_shubik h (to i)
  unfolding shapley_shubik
  same-shapley_shubik i lt =
      let share : ℕ → ℕ → ℕ = λ n s. swings_of_size h (to i) s * (factorial (s - 1) * factorial (n - s)) in
      let sum : sum_by (λ s. swings_of_size g i s * (factorial (s - 1) * factorial (length g.names - s))) (range_with_len 1 (length g.names))
      ≡ sum_by (share (length h.names)) (range_with_len 1 (length h.names)) =
      sum-range _ (share (length g.names)) 1 (length g.names)
      (λ s _ _. ap (λ (k : ℕ). k * (factorial (s - 1) * factorial (length g.names - s))) (same-swings-of-size i s lt))
      ∙ ap (λ (n : ℕ). sum_by (share n) (range_with_len 1 n)) (sym r.count) in
      (λ k. (sum k, factorial (sym r.count k)))

  same-indices : (i : ℕ) → i < length g.names → swing_indices g i ≡ swing_indices h (to i)
  unfolding banzhaf penrose power_to_prevent power_to_initiate
  same-indices i lt =
      let own = same-swings i lt in
      let count = sym r.count in
      let order = same-shapley_shubik i lt in
      (λ k. (
        (own k, same-all k),
        (own k, 2 ^ (count k - 1)),
        order k,
        (own k, same-total k),
        (own k, 2 ^ count k - same-total k),
      ))

  pub renamed-swings : HaveRenamedSwings to g h
  renamed-swings = record {
    winning = same-total;
    of_member = same-swings;
    of_member_size = same-swings-of-size;
    indices = same-indices;
  }

module _ (g : GameView) (i j : ℕ) (is : IsGame g) (li : i < length g.names) (lj : j < length g.names) (symmetric : AreSymmetric g i j) where
  exchanging : HaveRenamedSwings (exchanged i j) g g
  exchanging = renamed-swings (exchanged i j) (exchanged i j) g g is is (symmetric-renaming g is i j li lj symmetric)

  pub symmetric-sizes : (s : ℕ) → swings_of_size g i s ≡ swings_of_size g j s
  symmetric-sizes s = exchanging.of_member_size i s li ∙ ap (λ (k : ℕ). swings_of_size g k s) (first-exchanged i j)

  pub symmetric-swing_indices : swing_indices g i ≡ swing_indices g j
  symmetric-swing_indices = exchanging.indices i li ∙ ap (swing_indices g) (first-exchanged i j)

pub ruleset symmetric = (symmetric-sizes, symmetric-swing_indices)

pub winning-reordered : (g h : GameView) → IsGame g → IsGame h → h.names ≡ g.names → h.rules ≡ g.rules → h.ways ≡ g.ways
    → (t : Tables) → AreWinningCounts h t → AreWinningCounts g t
winning-reordered g h is_g is_h names rules ways t are =
    let r = same-renaming g h is_g is_h names rules ways in
    let count : t.members ≡ length g.names = are.members ∙ ap (λ (l : List (List ℕ)). length l) names in
    record {
      members = count;
      total = are.total ∙ sym (same-total same same g h is_g is_h r);
      of_size = λ s le. are.of_size s le ∙ sym (same-of-size same same g h is_g is_h r s);
      of_member = λ i lt. are.of_member i lt ∙ sym (same-of-member same same g h is_g is_h r i (omega (arith, count, lt)));
      of_member_size = λ i s lt le. are.of_member_size i s lt le
          ∙ sym (same-of-member-size same same g h is_g is_h r i s (omega (arith, count, lt)));
    }
