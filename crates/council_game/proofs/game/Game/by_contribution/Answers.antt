use Rattle.std.proofs.lemmas.Bool.Decides.{nat_tests}
use Rattle.council_game.proofs.Imports.{arith, length, length-map, length-range_with_len}
use Rattle.council_game.proofs.game.Game.by_contribution.Goals as goal

pub rank_by-requires-clause-several : goal.rank_by-requires-clause-several
rank_by-requires-clause-several c = omega (arith, c.rules.ensures.count, c.rules.ensures.range, c.if-rules-eq1.false)

pub rank_by-requires-clause-count : goal.rank_by-requires-clause-count
rank_by-requires-clause-count c = grind (arith, nat_tests, length, length-map, length-range_with_len)
