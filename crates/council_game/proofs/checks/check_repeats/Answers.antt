use Rattle.council_game.proofs.Imports.{arith, nat_tests, is_repeat, map, string_bytes, length-map}
use Rattle.council_game.proofs.Shared.{Games.nowhere_below, Lists.first-place}
use Rattle.council_game.proofs.checks.check_repeats.Goals as goal

pub returns-then-is_repeat : goal.returns-then-is_repeat
returns-then-is_repeat c = grind (arith, nat_tests, length-map, first-place (is_repeat (map string_bytes c.args.names.now)))

pub returns : goal.returns
returns c = grind (arith, nat_tests, length-map, nowhere_below (is_repeat (map string_bytes c.args.names.now)))
