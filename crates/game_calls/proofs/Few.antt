-- How many members and coalitions can pass a test.
use Rattle.std.proofs.Common.{◌≡◌, ℕ, zero, suc, ◌^◌, ◌≤◌, Bool, length, filter, refl, ap, arith, pow_mono}
use Rattle.std.proofs.lemmas.List.FromFn.{length-range_with_len}
use Rattle.council_game.specs.{Game.GameView, Game.IsGame, Members.members, Votes.down}
use Rattle.council_game.proofs.Shared.Games.{few-members}
use Rattle.power_index.proofs.Shared.Sums.{length-filter-le}
use Rattle.power_index.specs.Swings.{coalitions}

length-down : (n : ℕ) → length (down n) ≡ n
unfolding down
length-down zero = refl
length-down (suc n) = ap (λ (k : ℕ). suc k) (length-down n)

pub few-members_pass : (g : GameView) (test : ℕ → Bool) → IsGame g → length (filter test (members g)) ≤ 40
few-members_pass g test game =
    omega (arith, length-filter-le test (members g), length-range_with_len 0 (length g.names), few-members g game)

pub few-coalitions_pass : (g : GameView) (test : ℕ → Bool) → IsGame g → length (filter test (coalitions g)) ≤ 2 ^ 40
few-coalitions_pass g test game =
    let most = pow_mono (few-members g game) in
    omega (arith, length-filter-le test (coalitions g), length-down (2 ^ length g.names), most)

pub ruleset few_pass = (few-members_pass, few-coalitions_pass)
