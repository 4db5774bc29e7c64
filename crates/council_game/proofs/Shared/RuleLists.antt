-- The rules of a game as records, and as the code holds them.
use Rattle.std.proofs.lemmas.Bool.Decides.{nat_tests}
use Rattle.council_game.proofs.Imports.{◌≡◌, ℕ, List, length, arith, All, length-map, get_or-map, Rule, rule_view, rule_views}

-- the rules that the code holds are as full as the records say
pub held_full : (rules : List Rule) (n : ℕ) → All (λ r. length r.weights ≡ n) (rule_views rules)
    → All (λ r. length r.weights.items ≡ n) rules
held_full rules n full k d h =
    let here = full k (rule_view d) (omega (arith, length-map rules rule_view)) in grind (arith, nat_tests, get_or-map, rule_view)
