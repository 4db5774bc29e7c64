use Rattle.std.proofs.Common.{◌≡◌, ◌≤◌, ◌-◌, ◌*◌, ◌^◌, length, sum_by}
use Rattle.std.specs.List.{range_with_len}
use Rattle.council_game.specs.Game.{GameView, IsGame}
use Rattle.power_index.specs.{SwingIndices.factorial, Swings.AreWinningCounts, Swings.swings_of_size}
use Rattle.power_index.proofs.swing_indices.shapley_shubik.Given as goal

abbrev pub invariant-loop-size : goal.invariant-loop-size
invariant-loop-size l = record {
  small : l.sum ≤ (l.size - 1) * (2 ^ 40 * 5342931457063200);
  sum : (g : GameView) → IsGame g → AreWinningCounts g l.swings → l.sum * factorial (length g.names)
      ≡ 5342931457063200 * sum_by (λ s. swings_of_size g l.member s * (factorial (s - 1) * factorial (length g.names - s))) (range_with_len 1 (l.size - 1));
}
