use Rattle.std.proofs.Common.{arith, length-append}
use Rattle.council_game.proofs.Imports.{common_steps}
use Rattle.council_game.proofs.Cut.{cut_to_fits}
use Rattle.council_game.proofs.fault.member_text.Goals as goal

pub returns : goal.returns
returns c = grind (arith, common_steps, cut_to_fits, length-append)
