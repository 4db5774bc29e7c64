use Rattle.std.proofs.Common.{◌≡◌, ◌≤◌, ◌*◌, ◌^◌, sum_by}
use Rattle.std.specs.List.{range_with_len}
use Rattle.council_game.specs.Game.{GameView, IsGame}
use Rattle.power_index.specs.Swings.{AreWinningCounts, swings}
use Rattle.power_index.proofs.swings.Swings.all.Given as goal

abbrev pub invariant-loop-member : goal.invariant-loop-member
invariant-loop-member l = record {
  small : l.sum ≤ l.member * 2 ^ 40;
  swings : (g : GameView) → IsGame g → AreWinningCounts g l.self → l.sum ≡ sum_by (swings g) (range_with_len 0 l.member);
}
