use Rattle.std.proofs.Common.{rules}
use Rattle.power_index.proofs.Shared.Sound.{kept, tallies-are_counts}
use Rattle.power_index.proofs.counts.Counts.of_sizes.Goals as goal

pub returns-clause-counts : goal.returns-clause-counts
returns-clause-counts g c = tallies-are_counts c.args.game.now g.list _ (search rules)

pub invariant_of-counts : goal.invariant_of-counts
invariant_of-counts g c = kept (search rules)
