-- Laws of games: monotone weights, minimal coalitions.
use Rattle.council_game.proofs.Imports.{nat_tests, ℕ, ◌/◌, ◌%◌, ◌^◌, ◌<◌, ◌≤◌, List, [], ◌∷◌, length, arith, mul-le, weight}
use Rattle.council_game.proofs.Shared.WeightByDigits.{weight-nil, weight-cons}

-- fewer members weigh no more
pub weight-mono : (ws : List ℕ) (a c : ℕ) → ((i : ℕ) → i < length ws → a / 2 ^ i % 2 ≤ c / 2 ^ i % 2) → weight ws a ≤ weight ws c
weight-mono [] a c sub = omega (arith, weight-nil a, weight-nil c)
weight-mono (w ∷ ws) a c sub = grind (arith, nat_tests, weight-mono ws a c (λ i below. sub i (omega arith)), mul-le, weight-cons)
