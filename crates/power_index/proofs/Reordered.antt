-- Counts and indices do not depend on the names and places of the members.
use Rattle.power_index.proofs.Imports.{◌≡◌, ◌∙◌, ◌==◌, ◌&&◌, ℕ, ◌*◌, ◌/◌, ◌<◌, List, length, Bool, true, refl, sym, ap, arith, sum_by, range_with_len}
use Rattle.power_index.proofs.Imports.{GameView, IsGame, Tables, SameFraction, contains, size_of, count_of_member, members, denominator, weighted_sum}
use Rattle.power_index.proofs.Imports.{sizes_of_member, unit_sum, lowest_terms, deegan_packel, public_good, votes-are}
use Rattle.council_game.proofs.Shared.Sums.{filter-all}
use Rattle.council_game.specs.{Game.votes_of, Renaming.AreSymmetric, Renaming.IsRenaming, Renaming.exchanged, Votes.minimal_coalitions}
use Rattle.council_game.proofs.Shared.Renamed.{renamed-alike, same, same-renaming, sum-renamed, first-exchanged, symmetric-renaming}
use Rattle.power_index.specs.{Counting.count_of_member_size, MemberIndices.indices_of_member, Renaming.HaveRenamedCounts, Tables.AreCountsOfGame}
use Rattle.power_index.proofs.{Units.mean, Units.over_common, Units.each_divides, Weights.weight-of}
use Rattle.power_index.proofs.Shared.{AddUp.deegan_packel_bottom, LowestTerms.lowest_from_same, Members.few-members, Members.sizes-within}
use Rattle.power_index.proofs.Shared.{Minimal.minimal-some, Minimal.minimal-are-coalitions, Sums.sum-range}

module _ (to from : ℕ → ℕ) (g h : GameView) (is_g : IsGame g) (is_h : IsGame h) (r : IsRenaming to from g h) where
  same-total : length (minimal_coalitions (votes_of g)) ≡ length (minimal_coalitions (votes_of h))
  same-total =
      sym (filter-all (minimal_coalitions (votes_of g)))
      ∙ (renamed-alike to from g h is_g is_h r).counts (λ c. true) (λ d. true) (λ c d lc ld m. refl)
      ∙ filter-all (minimal_coalitions (votes_of h))

  same-member : (i : ℕ) → i < length g.names
      → count_of_member g i (minimal_coalitions (votes_of g)) ≡ count_of_member h (to i) (minimal_coalitions (votes_of h))
  same-member i lt = (renamed-alike to from g h is_g is_h r).counts (contains g i) (contains h (to i)) (λ c d lc ld m. m i lt)

  same-member-size : (i s : ℕ) → i < length g.names
      → count_of_member_size g i s (minimal_coalitions (votes_of g)) ≡ count_of_member_size h (to i) s (minimal_coalitions (votes_of h))
  same-member-size i s lt =
      let alike = renamed-alike to from g h is_g is_h r in
      alike.counts (λ c. contains g i c && (size_of g c == s)) (λ d. contains h (to i) d && (size_of h d == s)) (λ c d lc ld m.
      ap (λ (b : Bool). b && (size_of g c == s)) (m i lt) ∙ ap (λ (n : ℕ). contains h (to i) d && (n == s)) (alike.size c d m))

  same-deegan_packel : (i : ℕ) → i < length g.names
      → SameFraction (deegan_packel h (minimal_coalitions (votes_of h)) (to i)) (deegan_packel g (minimal_coalitions (votes_of g)) i)
  unfolding deegan_packel
  same-deegan_packel i lt =
      let all-g = minimal_coalitions (votes_of g) in
      let all-h = minimal_coalitions (votes_of h) in
      let some-g = (votes-are g is_g).some in
      let some-h = (votes-are h is_h).some in
      let own : List ℕ = sizes_of_member g all-g i in
      let other : List ℕ = sizes_of_member h all-h (to i) in
      let weigh : sum_by (λ s. denominator / s) own ≡ sum_by (λ s. denominator / s) other =
      sym (weight-of g all-g i some-g)
      ∙ sum-range _ (λ s. count_of_member_size h (to i) s all-h * (denominator / s)) 1 (length g.names)
      (λ s _ _. ap (λ (k : ℕ). k * (denominator / s)) (same-member-size i s lt))
      ∙ ap (weighted_sum denominator (λ s. count_of_member_size h (to i) s all-h)) (sym r.count)
      ∙ weight-of h all-h (to i) some-h in
      let common = over_common denominator other (each_divides (length h.names) other (few-members h is_h) (sizes-within h all-h (to i) some-h)) in
      let total = same-total in
      mean (length g.names) own (length all-g) (unit_sum other).0 ((unit_sum other).1 * length all-h) (few-members g is_g)
      (sizes-within g all-g i some-g)
      (step (unit_sum other).0 (unit_sum other).1 (length all-g) (length all-h) denominator (sum_by (λ s. denominator / s) own)
      (sum_by (λ s. denominator / s) other) weigh common total)
    where
      step : (top bottom m n d w v : ℕ) → w ≡ v → v * bottom ≡ top * d → m ≡ n → top * (d * m) ≡ w * (bottom * n)
      step top bottom m n d w v e f k = rw (e, k) (omega (arith, ap (λ (x : ℕ). x * n) f))

  same-public_good : (i : ℕ) → i < length g.names
      → public_good g (minimal_coalitions (votes_of g)) i ≡ public_good h (minimal_coalitions (votes_of h)) (to i)
  unfolding public_good
  same-public_good i lt =
      let all-h = minimal_coalitions (votes_of h) in
      let whole : sum_by (λ j. count_of_member g j (minimal_coalitions (votes_of g))) (members g)
      ≡ sum_by (λ j. count_of_member h j all-h) (members h) =
      sum-range _ (λ j. count_of_member h (to j) all-h) 0 (length g.names) (λ j _ below. same-member j (omega (arith, below)))
      ∙ sum-renamed (λ k. count_of_member h k all-h) to from (length g.names) r.inverse
      ∙ ap (λ (n : ℕ). sum_by (λ k. count_of_member h k all-h) (range_with_len 0 n)) (sym r.count) in
      rw (same-member i lt, whole) refl

  same-indices : (i : ℕ) → i < length g.names
      → indices_of_member g (minimal_coalitions (votes_of g)) i ≡ indices_of_member h (minimal_coalitions (votes_of h)) (to i)
  same-indices i lt =
      let all-g = minimal_coalitions (votes_of g) in
      let all-h = minimal_coalitions (votes_of h) in
      let first = lowest_from_same (deegan_packel h all-h (to i)) (deegan_packel g all-g i)
      (deegan_packel_bottom h all-h (to i) is_h (minimal-some h is_h) (minimal-are-coalitions h is_h))
      (deegan_packel_bottom g all-g i is_g (minimal-some g is_g) (minimal-are-coalitions g is_g)) (same-deegan_packel i lt) in
      let second = ap lowest_terms (same-public_good i lt) in rw (← first, second) refl

  pub renamed-counts : HaveRenamedCounts to g h
  renamed-counts = record {
    total = same-total;
    of_size = λ s. (let alike = renamed-alike to from g h is_g is_h r in
        alike.counts (λ c. size_of g c == s) (λ d. size_of h d == s) (λ c d lc ld m. ap (λ (n : ℕ). n == s) (alike.size c d m)));
    of_member = same-member;
    of_member_size = same-member-size;
    indices = same-indices;
  }

pub symmetric-indices : (g : GameView) (i j : ℕ) → IsGame g → i < length g.names → j < length g.names → AreSymmetric g i j
    → indices_of_member g (minimal_coalitions (votes_of g)) i ≡ indices_of_member g (minimal_coalitions (votes_of g)) j
symmetric-indices g i j is li lj symmetric =
    (renamed-counts (exchanged i j) (exchanged i j) g g is is (symmetric-renaming g is i j li lj symmetric)).indices i li
    ∙ ap (indices_of_member g (minimal_coalitions (votes_of g))) (first-exchanged i j)

pub counts-reordered : (g h : GameView) (t : Tables) → IsGame g → IsGame h → h.names ≡ g.names → h.rules ≡ g.rules → h.ways ≡ g.ways
    → AreCountsOfGame h t → AreCountsOfGame g t
counts-reordered g h t is_g is_h names rules ways are =
    let counts = renamed-counts same same g h is_g is_h (same-renaming g h is_g is_h names rules ways) in
    let count : t.members ≡ length g.names = are.members ∙ ap (λ (l : List (List ℕ)). length l) names in
    record {
      members = count;
      total = are.total ∙ sym counts.total;
      of_size = λ s le. are.of_size s le ∙ sym (counts.of_size s);
      of_member = λ i lt. are.of_member i lt ∙ sym (counts.of_member i (omega (arith, count, lt)));
      of_member_size = λ i s lt le. are.of_member_size i s lt le ∙ sym (counts.of_member_size i s (omega (arith, count, lt)));
    }
