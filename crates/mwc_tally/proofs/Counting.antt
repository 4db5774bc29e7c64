-- Slices counted one after the other, and in any order.
use Rattle.std.proofs.Common.{◌≡◌, ◌∙◌, ℕ, ◌+◌, ◌^◌, ◌<◌, ◌≤◌, Bool, List, [], ◌∷◌, ◌++◌, length, sym, ap, refl, arith, subst}
use Rattle.std.proofs.Common.{length-append, All, filter, flat_map, sum_by, IsPermutation, append_assoc, append-nil}
use Rattle.std.proofs.lemmas.List.{get_or_at, Concat.flat_map-append, Concat.length-flat_map, Sorted.sum_by-IsPermutation, Sums.sum_by-cons}
use Rattle.std.proofs.lemmas.Grind.{common_steps}
use Rattle.std.proofs.lemmas.List.Elements.{All-filter, filter-append, All-head, All-tail}
use Rattle.std.specs.List.{range_with_len}
use Rattle.council_game.specs.{Game.GameView, Game.IsGame, Game.votes_of, Votes.minimal_coalitions}
use Rattle.council_game.proofs.Shared.Games.{votes-are}
use Rattle.mwc_walk.specs.Slices.{slice}
use Rattle.mwc_walk.proofs.Shared.{Joined.slices-joined, One.slice-short}
use Rattle.power_index.specs.Tables.{Tables, AreTallies, AreCounts, table_total}
use Rattle.power_index.proofs.Shared.{Minimal.minimal-are-coalitions, Minimal.minimal-few, Sound.total-is, Sound.tallies-are_counts}
use Rattle.council_game.proofs.Shared.Ranges.{range-more, sum_by-range-more, sum_by-range-le}
use Rattle.mwc_tally.specs.Inner.SliceCounts.{CountedUpTo, CountSlices, CountWhole, AreThreadCounts, slice_of}
use Rattle.mwc_tally.specs.declared.{thread_counts.ThreadCounts.ThreadCounts, sliced_game.SlicedGame.SlicedGame}

-- a walk that is counted as it goes, if c is next
module _ {g : GameView} {whole to_come rest : List ℕ} {c : ℕ} {t : Tables} (next : to_come ≡ c ∷ rest)
    (h : CountedUpTo g whole to_come t) where
  next-joined : h.before ++ c ∷ rest ≡ whole
  next-joined = ap (λ (l : List ℕ). h.before ++ l) (sym next) ∙ h.joined

  pub counted-step : (u : Tables) → ((list : List ℕ) → AreTallies g list t → AreTallies g (list ++ c ∷ []) u) → CountedUpTo g whole rest u
  counted-step u more = record {
    before = h.before ++ c ∷ [];
    joined = append_assoc h.before (c ∷ []) rest ∙ next-joined;
    tallies = more h.before h.tallies;
  }

  pub counted-room : length whole ≤ 2 ^ 40 → table_total t < 2 ^ 40
  counted-room few = grind (arith, length-append, next-joined, total-is)

  pub counted-next : (P : ℕ → Type 0) → All P whole → P c
  counted-next P all =
      let here = subst (All P) (sym next-joined) all (length h.before) c (omega (arith, length-append h.before (c ∷ rest))) in
      rw (get_or_at h.before c rest c (length h.before) refl) at here

-- what a walk over a slice gives next is a coalition of the game, and there is room for it
module _ (s : SlicedGame) (j : ℕ) {to_come rest : List ℕ} {c : ℕ} {t : Tables} (next : to_come ≡ c ∷ rest)
    (h : CountedUpTo s.game.now (slice_of s j) to_come t) where
  pub slice-next : (0 < c) × (c < 2 ^ length s.game.now.names)
  unfolding slice
  slice-next =
      let own : ℕ → Type 0 = λ c. (0 < c) × (c < 2 ^ length s.game.now.names) in
      counted-next next h own (All-filter _ own _ (minimal-are-coalitions s.game.now h.tallies.of_game.is_game))

  pub slice-room : table_total t < 2 ^ 40
  slice-room = counted-room next h (slice-short (votes_of s.game.now) s.bits j (votes-are s.game.now h.tallies.of_game.is_game))

-- all slices are the whole list
pub all-slices : (s : SlicedGame) → flat_map (slice_of s) (range_with_len 0 (2 ^ s.bits)) ≡ minimal_coalitions (votes_of s.game.now)
all-slices s = slices-joined (votes_of s.game.now) s.bits s.bits_fit.0 s.bits_fit.1

-- the first j slices and slice j are not too many
pub slices-room : (s : SlicedGame) (j : ℕ) → IsGame s.game.now → j < 2 ^ s.bits
    → length (flat_map (slice_of s) (range_with_len 0 j)) + length (slice_of s j) ≤ 2 ^ 40
slices-room s j game lt =
    let f : ℕ → ℕ = λ i. length (slice_of s i) in
    let ends = ap (λ (l : List ℕ). length l) (all-slices s) in
    let most : sum_by f (range_with_len 0 (2 ^ s.bits)) ≤ 2 ^ 40 = grind (arith, length-flat_map, minimal-few) in
    let less = sum_by-range-le f (j + 1) (2 ^ s.bits) (omega (arith, lt)) in grind (arith, length-flat_map, sum_by-range-more)

pub slices-more : (s : SlicedGame) (j : ℕ)
    → flat_map (slice_of s) (range_with_len 0 j) ++ slice_of s j ≡ flat_map (slice_of s) (range_with_len 0 (j + 1))
slices-more s j = grind (arith, append-nil, flat_map-append, range-more)

-- how many of a joined list pass a test
pass-flat_map : (q : ℕ → Bool) (f : ℕ → List ℕ) (xs : List ℕ) → length (filter q (flat_map f xs)) ≡ sum_by (λ x. length (filter q (f x))) xs
pass-flat_map q f [] = refl
pass-flat_map q f (x ∷ xs) =
    grind (arith, pass-flat_map q f xs, filter-append, length-append, sum_by-cons (λ y. length (filter q (f y))) x xs)

pass-permutation : (q : ℕ → Bool) (f : ℕ → List ℕ) (xs ys : List ℕ) → IsPermutation xs ys
    → length (filter q (flat_map f xs)) ≡ length (filter q (flat_map f ys))
pass-permutation q f xs ys h = grind (arith, pass-flat_map, sum_by-IsPermutation)

-- slices in another order have the same counts
pub permuted : (g : GameView) (f : ℕ → List ℕ) (xs ys : List ℕ) (t : Tables) → IsPermutation xs ys → AreTallies g (flat_map f xs) t
    → AreTallies g (flat_map f ys) t
permuted g f xs ys t same h = grind (arith, pass-permutation)

-- the slices, each once, have the counts of the whole list
pub whole-counts : (s : SlicedGame) (taken sorted : List ℕ) (n : ℕ) (t : Tables) → IsPermutation taken sorted → sorted ≡ range_with_len 0 n
    → n ≡ 2 ^ s.bits → CountSlices s taken t → CountWhole s t
whole-counts s taken sorted n t same each all h =
    subst (λ (l : List ℕ). AreCounts s.game.now l t) (ap (flat_map (slice_of s)) (each ∙ ap (range_with_len 0) all) ∙ all-slices s)
    (tallies-are_counts s.game.now _ t (permuted s.game.now (slice_of s) taken sorted t same h))

-- of what has a property, the first and the others have it
module _ {X : Type 0} (P : X → Type 0) {x : X} {rest all : List X} (begins : all ≡ x ∷ rest) (h : All P all) where
  pub first-of : P x
  first-of = All-head P x rest (subst (All P) begins h)

  pub others-of : All P rest
  others-of = All-tail P x rest (subst (All P) begins h)

-- what a thread counted of the slices that it was given, as they are read
pub same-totals : {s given : SlicedGame} {taken : List ℕ} {t : Tables} (totals : ThreadCounts) → given ≡ s → AreThreadCounts given totals
    → taken ≡ totals.taken.items → t ≡ totals.counts.value → CountSlices s taken t
same-totals {s} {t = t} totals own h items counts = grind (arith)

-- what a row of numbers rests on
pub ruleset each_once = (common_steps, range-more)
