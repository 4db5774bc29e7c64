use Rattle.council_game.proofs.Imports.{◌≡◌, map, range_with_len}
use Rattle.council_game.specs.Contribution.{contribution}
use Rattle.council_game.proofs.contribution.contributions.Given as goal

abbrev pub invariant-loop-member : goal.invariant-loop-member
invariant-loop-member l = l.list.items ≡ map (contribution l.game) (range_with_len 0 l.member)
