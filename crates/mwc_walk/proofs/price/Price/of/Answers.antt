use Rattle.mwc_walk.proofs.{Prices.rounded-up, Imports.arith, Imports.mul-le}
use Rattle.mwc_walk.proofs.price.Price.of.Goals as goal

pub returns-in-Some : goal.returns-in-Some
returns-in-Some c = grind (arith, mul-le, rounded-up)

pub returns : goal.returns
returns c = grind (arith, mul-le, rounded-up)
