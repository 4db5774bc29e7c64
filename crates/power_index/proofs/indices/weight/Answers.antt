use Rattle.power_index.proofs.{Imports.arith, Imports.div-le_self, Imports.mul-le-mul, Units.weighted_sum-more}
use Rattle.power_index.proofs.indices.weight.Goals as goal

pub loop-size-preserved : goal.loop-size-preserved
loop-size-preserved c = grind (arith, weighted_sum-more, div-le_self, mul-le-mul)

pub returns-clause-light : goal.returns-clause-light
returns-clause-light c = grind (arith, c.members-size-end.ensures.sound.light c.args.member c.requires)
