-- The fractions that the code makes, as the indices.
use Rattle.power_index.proofs.Imports.{◌≡◌, ◌∙◌, ℕ, ◌*◌, ◌<◌, ◌≤◌, List, length, sym, ap, arith, mul-pos, GameView, Tables, denominator}
use Rattle.power_index.proofs.Imports.{AreCounts, table_total, table_memberships, table_deegan_packel, table_public_good, IsLowestOf}
use Rattle.power_index.proofs.Imports.{lowest_terms, deegan_packel, public_good, sizes_of_member}
use Rattle.power_index.proofs.{Shared.LowestTerms.lowest_terms-lowest, Shared.LowestTerms.lowest_terms-only, Units.mean, Units.bottom_pos}
use Rattle.power_index.proofs.Weights.{within, weight, memberships-are}

pub deegan-packel-is : (g : GameView) (list : List ℕ) (t : Tables) (i top bottom : ℕ) → i < t.members → t.members ≤ 40 → AreCounts g list t
    → IsLowestOf (table_deegan_packel t i) (top, bottom) → IsLowestOf (deegan_packel g list i) (top, bottom)
unfolding deegan_packel
deegan-packel-is g list t i top bottom lt few h is = record {
  positive = is.positive;
  same = mean (length g.names) (sizes_of_member g list i) (length list) top bottom (omega (arith, h.members)) (within g list t i lt h)
      (ap (λ n. top * (denominator * n)) (sym h.total) ∙ (is.same ∙ ap (λ w. w * bottom) (weight g list t i lt h)));
  lowest = is.lowest;
}

pub deegan-packel-bottom : (g : GameView) (list : List ℕ) (t : Tables) (i : ℕ) → i < t.members → 0 < length list → AreCounts g list t
    → 0 < (deegan_packel g list i).1
unfolding deegan_packel
deegan-packel-bottom g list t i lt some h = mul-pos (bottom_pos (length g.names) (sizes_of_member g list i) (within g list t i lt h)) some

pub public-good-is : (g : GameView) (list : List ℕ) (t : Tables) (i top bottom : ℕ) → i < t.members → AreCounts g list t
    → IsLowestOf (table_public_good t i) (top, bottom) → IsLowestOf (public_good g list i) (top, bottom)
unfolding public_good
public-good-is g list t i top bottom lt h is = grind (arith, memberships-are)

-- in lowest terms the indices over tables are those over each list with these counts
pub deegan-packel-same : (g : GameView) (list : List ℕ) (t : Tables) (i : ℕ) → i < t.members → t.members ≤ 40 → 1 ≤ table_total t
    → AreCounts g list t → lowest_terms (table_deegan_packel t i) ≡ lowest_terms (deegan_packel g list i)
deegan-packel-same g list t i lt few some h =
    lowest_terms-only (deegan_packel g list i) (lowest_terms (table_deegan_packel t i))
    (deegan-packel-bottom g list t i lt (omega (arith, some, h.total)) h)
    (deegan-packel-is g list t i _ _ lt few h (lowest_terms-lowest (table_deegan_packel t i) (omega (arith, some))))

pub public-good-same : (g : GameView) (list : List ℕ) (t : Tables) (i : ℕ) → i < t.members → 1 ≤ table_memberships t
    → AreCounts g list t → lowest_terms (table_public_good t i) ≡ lowest_terms (public_good g list i)
unfolding public_good
public-good-same g list t i lt some h = grind (arith, lowest_terms-only, public-good-is, lowest_terms-lowest, memberships-are)
