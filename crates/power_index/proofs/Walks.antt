-- One walk over the places of a coalition, that counts it at each.
use Rattle.power_index.proofs.Imports.{◌≡◌, ℕ, ◌^◌, ◌<◌, List, length, get_or, cond, true, false, has, [], with_one}

-- of the places of c, those in rest are still to be counted
pub record Walked (n c size : ℕ) (old now : List (List ℕ)) (rest : ℕ) : Type 0 where
  pub below : rest < 2 ^ n
  pub long : length now ≡ 40
  pub inside : (p : ℕ) → p < n → has n p rest ≡ true → has n p c ≡ true
  pub waiting : (p : ℕ) → p < n → has n p rest ≡ true → get_or now p [] ≡ get_or old p []
  pub done : (p : ℕ) → p < n
      → has n p rest ≡ false → get_or now p [] ≡ cond (has n p c) (with_one (get_or old p []) size) (get_or old p [])
