use Rattle.power_index.proofs.Imports.{arith, length-append}
use Rattle.council_game.proofs.Shared.Lists.{map_one_more}
use Rattle.power_index.proofs.member_indices.all_indices.Goals as goal

pub loop-member-preserved : goal.loop-member-preserved
loop-member-preserved c = record {
  count = grind (arith, length-append);
  indices = λ g list h. grind (arith, map_one_more, c.loop-member.invariant.indices g list h, c.indices_of.ensures g list h);
}

pub returns-clause-indices : goal.returns-clause-indices
returns-clause-indices c = grind arith
