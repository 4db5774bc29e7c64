use Rattle.mwc_walk.proofs.{Imports.arith, Imports.lowest-place}
use Rattle.council_game.proofs.Shared.Digits.{lowest-cleared}
use Rattle.mwc_walk.proofs.cursor.Cursor.last_place.Goals as goal

pub overflow_sub-result-2 : goal.overflow_sub-result-2
overflow_sub-result-2 c = omega (arith, (lowest-place _ c.args.rest c.requires.is.game.few c.requires.some c.requires.short).0)

pub returns-clause-inside : goal.returns-clause-inside
returns-clause-inside c = grind (arith, lowest-place)

pub returns-clause-left : goal.returns-clause-left
returns-clause-left c = grind (arith, lowest-cleared)
