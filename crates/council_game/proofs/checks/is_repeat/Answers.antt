use Rattle.council_game.proofs.{Imports.arith, Imports.get_or-map, Shared.Lists.is_some-position}
use Rattle.std.proofs.lemmas.List.{take-map}
use Rattle.council_game.proofs.checks.is_repeat.Goals as goal

pub returns : goal.returns
returns c = grind (arith, get_or-map, take-map, is_some-position)
