use Rattle.council_game.proofs.Imports.{arith, nat_tests, is_heavy, rule_views}
use Rattle.council_game.proofs.Shared.{Games.nowhere_below, Lists.first-place}
use Rattle.council_game.proofs.checks.check_weights.Goals as goal

pub returns-then-is_heavy : goal.returns-then-is_heavy
returns-then-is_heavy c = grind (arith, nat_tests, first-place (is_heavy (rule_views c.args.rules.now)) c.args.members c.loop-k.k)

pub returns : goal.returns
returns c = grind (arith, nat_tests, nowhere_below (is_heavy (rule_views c.args.rules.now)) c.args.members)
