use Rattle.power_index.proofs.Shared.Sound.{tallies-are_counts}
use Rattle.power_index.proofs.counts.Counts.of.Goals as goal

pub returns-clause-tallies : goal.returns-clause-tallies
returns-clause-tallies c = c.count_row.ensures.tallies c.args.game.now _ c.none-counts.ensures.tallies

pub returns-clause-counts : goal.returns-clause-counts
returns-clause-counts c = tallies-are_counts c.args.game.now c.args.list.now c.count_row.new.self
    (c.count_row.ensures.tallies c.args.game.now _ c.none-counts.ensures.tallies)
