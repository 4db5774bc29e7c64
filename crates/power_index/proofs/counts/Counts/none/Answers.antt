use Rattle.power_index.proofs.Imports.{arith, [], refl, replicate, AreTallies}
use Rattle.council_game.proofs.Shared.Sums.{get_or-zeros}
use Rattle.power_index.proofs.Shared.Sound.{kept, none-hold, none-some, tallies-are_counts}
use Rattle.power_index.proofs.counts.Counts.none.Goals as goal

hold : (c : goal.After-loop-i) → AreTallies c.args.game.now []
    (record { members = c.members-members.result; ranks = c.loop-i.ranks; all = replicate 41 0; each = replicate 40 (replicate 41 0) })
hold c = none-hold c.args.game.now _ c.loop-i.ranks (replicate 41 0) c.members-members.ensures.game c.members-members.ensures.count
    (λ i lt. c.loop-i.invariant.done i (omega arith)) refl (get_or-zeros 41)

pub invariant_of-result : goal.invariant_of-result
invariant_of-result c = kept (none-some c.args.game.now _ (hold c))

pub returns-clause-tallies : goal.returns-clause-tallies
returns-clause-tallies c = hold c

pub returns-clause-counts : goal.returns-clause-counts
returns-clause-counts c = tallies-are_counts c.args.game.now [] _ (hold c)
