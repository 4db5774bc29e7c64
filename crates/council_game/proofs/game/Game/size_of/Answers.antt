use Rattle.std.proofs.lemmas.Bool.Decides.{nat_tests}
use Rattle.council_game.proofs.Imports.{arith}
use Rattle.council_game.proofs.Sizes.{ones-low, ones-few}
use Rattle.council_game.proofs.game.Game.size_of.Goals as goal

pub returns-clause-size : goal.returns-clause-size
returns-clause-size c = grind (arith, nat_tests, ones-low)

pub returns-clause-few : goal.returns-clause-few
returns-clause-few c = grind (arith, nat_tests, ones-few)
