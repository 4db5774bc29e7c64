use Rattle.std.proofs.Common.{arith, refl}
use Rattle.council_game.proofs.Shared.Sums.{get_or-zeros}
use Rattle.council_c.proofs.numbers.sizes_of.Goals as goal

pub loop-size-init : goal.loop-size-init
loop-size-init c = record {
  long = refl;
  rest = λ k above. get_or-zeros 41 k;
  done = λ k below. absurd (omega (arith, below));
}
