use Rattle.council_report.proofs.Imports.{◌^◌, ◌<◌, length, refl, arith}
use Rattle.std.proofs.Common.{pow_pos}
use Rattle.council_report.proofs.SharedLines.{line-first, none-subtotal}
use Rattle.council_report.proofs.shared_line.SharedLine.new.Goals as goal

pub returns : goal.returns
returns c =
    let zero : 0 < 2 ^ length c.args.game.now.names = pow_pos (length c.args.game.now.names) in
    record {
      is = line-first c.args.game.now _ c.in_ok-labels_of.ensures.game c.in_ok-labels_of.ensures.labels refl
          c.in_ok-with_capacity.ensures.items (omega (arith, c.in_ok-with_capacity.ensures.exact)) refl
          (λ d. none-subtotal c.args.game.now c.none.result c.none.ensures.length c.none.ensures.long c.none.ensures.weights);
      below = omega (arith, zero, c.of_mask.ensures);
    }
