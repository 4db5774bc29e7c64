use Rattle.power_index.proofs.{Imports.arith, Shared.Printed.public-good-is, Shared.Printed.public-good-same}
use Rattle.power_index.proofs.indices.public_good.Goals as goal

pub returns-clause-lowest : goal.returns-clause-lowest
returns-clause-lowest c g list h = grind (arith, public-good-is g list c.args.counts.now c.args.member)

pub returns-clause-terms : goal.returns-clause-terms
returns-clause-terms c g list some h = grind (arith, public-good-same)
