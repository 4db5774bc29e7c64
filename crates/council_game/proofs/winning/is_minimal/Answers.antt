use Rattle.council_game.proofs.Imports.{minimal, false_from_ne_true, both_ways, nat_tests, common_steps, arith}
use Rattle.council_game.proofs.Shared.Meanings.{needs-each-member}
use Rattle.std.proofs.lemmas.Bool.{and_left}
use Rattle.council_game.proofs.winning.is_minimal.Goals as goal

pub returns-then-not-wins : goal.returns-then-not-wins
unfolding minimal
returns-then-not-wins c = grind (arith, common_steps, and_left)

pub returns-then-wins : goal.returns-then-wins
returns-then-wins c = grind (arith, nat_tests, common_steps, false_from_ne_true, both_ways, needs-each-member)

pub returns : goal.returns
returns c = grind (arith, common_steps, needs-each-member)
