-- How large the numbers of an index are in lowest terms.
use Rattle.power_index.proofs.Imports.{length-range_with_len, get_or-range_with_len, Tables, AreSound, table_of_member, table_memberships}
use Rattle.power_index.proofs.Imports.{ℕ, ◌*◌, ◌^◌, ◌<◌, ◌≤◌, length, get_or, arith, range_with_len, div-le_self, table_deegan_packel}
use Rattle.power_index.proofs.Imports.{table_public_good, lowest_terms}
use Rattle.std.proofs.lemmas.List.Sums.{sum_by-le}
use Rattle.std.proofs.Common.{◌≡◌, ℕ, zero, suc, ◌-◌, ◌*◌, ◌^◌, ◌<◌, ◌≤◌, length, get_or, ap, refl, inl, inr, arith, pow_mono, div-le_self}
use Rattle.std.specs.List.{range_with_len}
use Rattle.std.proofs.lemmas.{Bool.cases_eq, List.FromFn.get_or-range_with_len, List.FromFn.length-range_with_len, List.Sums.sum_by-le}
use Rattle.council_game.specs.{Game.GameView, Game.IsGame}
use Rattle.council_game.proofs.Shared.{Games.few-members}
use Rattle.power_index.specs.Fractions.{lowest_terms}
use Rattle.power_index.specs.{SwingIndices.banzhaf, SwingIndices.factorial, SwingIndices.penrose, SwingIndices.power_to_initiate, SwingIndices.power_to_prevent, SwingIndices.shapley_shubik, Swings.all_swings, Swings.swings}
use Rattle.power_index.proofs.Shared.Winning.{winning-few}
use Rattle.power_index.proofs.{SwingBounds.swings-of-losing, Orders.shapley-within}

-- a pair of numbers below a bound
abbrev pub AreBelow : ℕ → ℕ × ℕ → Type 0
AreBelow k p = (p.0 < k) × (p.1 < k)

-- lowest terms are no greater
lowest-below : (k : ℕ) (p : ℕ × ℕ) → AreBelow k p → AreBelow k (lowest_terms p)
unfolding lowest_terms
lowest-below k p h = grind (arith, div-le_self)

pub deegan_packel-wide : (t : Tables) (i : ℕ) → AreSound t → i < t.members → AreBelow (10 ^ 28) (lowest_terms (table_deegan_packel t i))
deegan_packel-wide t i sound lt =
    lowest-below (10 ^ 28) (table_deegan_packel t i) (omega (arith, sound.light i lt, sound.few), omega (arith, sound.few))

pub public_good-wide : (t : Tables) (i : ℕ) → AreSound t → i < t.members → AreBelow (10 ^ 28) (lowest_terms (table_public_good t i))
public_good-wide t i sound lt =
    let long = length-range_with_len 0 t.members in
    let all : table_memberships t ≤ length (range_with_len 0 t.members) * 2 ^ 40 =
    sum_by-le (table_of_member t) (2 ^ 40) (range_with_len 0 t.members) (λ k d below.
    let is = get_or-range_with_len 0 t.members k d (omega (arith, below, long)) in
    let own = sound.few_of_member (get_or (range_with_len 0 t.members) k d) (omega (arith, is, below, long)) in
    omega (arith, own, sound.few)) in
    let own = sound.few_of_member i lt in
    lowest-below (10 ^ 28) (table_public_good t i) (omega (arith, own, sound.few), omega (arith, all, long, sound.few_members))

-- ---- the indices that rest on swings
rises : (n m : ℕ) → n ≤ m → factorial n ≤ factorial m
unfolding factorial
rises n zero le = let same : n ≡ 0 = omega (arith, le) in omega (arith, ap factorial same)
rises n (suc m) le = elim (cases_eq n (suc m)) [
  | inl same ↦ omega (arith, ap factorial same)
  | inr other ↦ let less = rises n m (omega (arith, le, other)) in grind (arith, less)
]

of-forty : factorial 40 ≡ 815915283247897734345611269596115894272000000000
unfolding factorial
of-forty = refl

factorial-few : (n : ℕ) → n ≤ 40 → factorial n < 10 ^ 48
factorial-few n few = omega (arith, rises n 40 few, of-forty)

module _ (g : GameView) (game : IsGame g) (i : ℕ) (lt : i < length g.names) where
  pub swings-few : swings g i ≤ 2 ^ 40
  swings-few = let most = pow_mono (few-members g game) in omega (arith, swings-of-losing g game i lt, most)

  pub penrose-small : AreBelow (10 ^ 28) (lowest_terms (penrose g i))
  unfolding penrose
  penrose-small =
      let less : length g.names - 1 ≤ 40 = omega (arith, few-members g game) in
      let most = pow_mono less in lowest-below (10 ^ 28) (penrose g i) (omega (arith, swings-few), omega (arith, most))

  pub prevent-small : AreBelow (10 ^ 28) (lowest_terms (power_to_prevent g i))
  unfolding power_to_prevent
  prevent-small = lowest-below (10 ^ 28) (power_to_prevent g i) (omega (arith, swings-few), omega (arith, winning-few g game))

  pub initiate-small : AreBelow (10 ^ 28) (lowest_terms (power_to_initiate g i))
  unfolding power_to_initiate
  initiate-small =
      let most = pow_mono (few-members g game) in
      lowest-below (10 ^ 28) (power_to_initiate g i) (omega (arith, swings-few), omega (arith, most))

  pub shapley-small : AreBelow (10 ^ 48) (lowest_terms (shapley_shubik g i))
  unfolding shapley_shubik
  shapley-small =
      let all = factorial-few (length g.names) (few-members g game) in
      lowest-below (10 ^ 48) (shapley_shubik g i) (omega (arith, all, shapley-within g game i lt), all)

module _ (g : GameView) (game : IsGame g) where
  all-few : all_swings g ≤ 40 * 2 ^ 40
  all-few =
      let n : ℕ = length g.names in
      let long = length-range_with_len 0 n in
      let each = sum_by-le (swings g) (2 ^ 40) (range_with_len 0 n) (λ k d lt.
      let is = get_or-range_with_len 0 n k d (omega (arith, lt, long)) in
      swings-few g game (get_or (range_with_len 0 n) k d) (omega (arith, is, lt, long))) in
      omega (arith, each, long, few-members g game)

  pub banzhaf-small : (i : ℕ) → i < length g.names → AreBelow (10 ^ 28) (lowest_terms (banzhaf g i))
  unfolding banzhaf
  banzhaf-small i lt = lowest-below (10 ^ 28) (banzhaf g i) (omega (arith, swings-few g game i lt), omega (arith, all-few))
