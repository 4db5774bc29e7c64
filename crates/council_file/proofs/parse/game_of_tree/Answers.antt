use Rattle.std.proofs.{Common.arith, lemmas.Grind.common_steps}
use Rattle.council_file.proofs.Fits.{held}
use Rattle.council_file.proofs.parse.game_of_tree.Goals as goal

pub with_rules-requires : goal.with_rules-requires
with_rules-requires c = grind (arith, common_steps, held)

pub with_ways-requires : goal.with_ways-requires
with_ways-requires c = grind (arith, common_steps, held)
