-- Indices in lowest terms add up to what the indices add up to.
use Rattle.std.proofs.Common.{◌≡◌, ◌∙◌, ℕ, ◌+◌, ◌*◌, ◌<◌, List, [], ◌∷◌, length, map, ap, refl, arith}
use Rattle.std.proofs.Math.Nat.{eq_of_mul-eq-mul_right}
use Rattle.council_game.specs.Game.{GameView, IsGame, AreNonemptyCoalitions}
use Rattle.power_index.specs.{Counting.members, Indices.deegan_packel, Indices.public_good}
use Rattle.power_index.specs.Fractions.{pair_sum, AddUpToOne, SameFraction, lowest_terms}
use Rattle.power_index.proofs.Shared.AddUp.{all_pos, deegan_packel_bottom, public_good_bottom, deegan_packel_adds_up, public_good_adds_up}
use Rattle.power_index.proofs.Shared.LowestTerms.{lowest_terms-lowest}

-- sums of the same fractions are the same
same-sum : (q r : ℕ → ℕ × ℕ) → ((i : ℕ) → SameFraction (r i) (q i)) → (is : List ℕ)
    → SameFraction (pair_sum (map r is)) (pair_sum (map q is))
same-sum q r each [] = refl
same-sum q r each (i ∷ is) =
    step (r i).0 (r i).1 (q i).0 (q i).1 (pair_sum (map r is)).0 (pair_sum (map r is)).1 (pair_sum (map q is)).0
    (pair_sum (map q is)).1 (each i) (same-sum q r each is)
  where
    step : (a b a' b' c d c' d' : ℕ) → a * b' ≡ a' * b → c * d' ≡ c' * d → (a * d + c * b) * (b' * d') ≡ (a' * d' + c' * b') * (b * d)
    step a b a' b' c d c' d' e f = omega (arith, ap (λ (n : ℕ). n * (d * d')) e, ap (λ (n : ℕ). n * (b * b')) f)

lowest-adds_up : (q : ℕ → ℕ × ℕ) (is : List ℕ) → ((i : ℕ) → 0 < (q i).1) → AddUpToOne (map q is)
    → AddUpToOne (map (λ i. lowest_terms (q i)) is)
lowest-adds_up q is pos whole = record {
  positive = all_pos (λ i. lowest_terms (q i)) (λ i. (lowest_terms-lowest (q i) (pos i)).positive) is;
  one = one (pair_sum (map (λ i. lowest_terms (q i)) is)).0 (pair_sum (map (λ i. lowest_terms (q i)) is)).1 (pair_sum (map q is)).0
      (pair_sum (map q is)).1
      whole.positive (same-sum q (λ i. lowest_terms (q i)) (λ i. (lowest_terms-lowest (q i) (pos i)).same) is) whole.one;
}
  where
    one : (s v t u : ℕ) → 0 < u → s * u ≡ t * v → t * 1 ≡ 1 * u → s * 1 ≡ 1 * v
    one s v t u some same is-one =
        let e : t ≡ u = omega (arith, is-one) in
        let cross : s * u ≡ v * u = same ∙ ap (λ (n : ℕ). n * v) e ∙ omega arith in
        omega (arith, eq_of_mul-eq-mul_right u some s v cross)

pub lowest_deegan_packel : (g : GameView) (list : List ℕ) → IsGame g → 0 < length list → AreNonemptyCoalitions g list
    → AddUpToOne (map (λ i. lowest_terms (deegan_packel g list i)) (members g))
lowest_deegan_packel g list game some h =
    lowest-adds_up (deegan_packel g list) (members g) (λ i. deegan_packel_bottom g list i game some h)
    (deegan_packel_adds_up g list game some h)

pub lowest_public_good : (g : GameView) (list : List ℕ) → IsGame g → 0 < length list → AreNonemptyCoalitions g list
    → AddUpToOne (map (λ i. lowest_terms (public_good g list i)) (members g))
lowest_public_good g list game some h =
    lowest-adds_up (public_good g list) (members g) (λ i. public_good_bottom g list i game some h) (public_good_adds_up g list game some h)

pub ruleset sums = (lowest_deegan_packel, lowest_public_good)

pub ruleset bottoms = (deegan_packel_bottom, public_good_bottom)
