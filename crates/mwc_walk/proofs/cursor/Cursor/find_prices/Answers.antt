use Rattle.mwc_walk.proofs.Imports.{arith}
use Rattle.mwc_walk.proofs.Steps.{lane-here}
use Rattle.mwc_walk.proofs.cursor.Cursor.find_prices.Goals as goal

pub new-requires : goal.new-requires
new-requires c = λ i below. lane-here c.requires i (omega (arith, below, c.requires.rules))
