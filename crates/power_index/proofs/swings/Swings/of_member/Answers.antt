use Rattle.std.proofs.Common.{arith}
use Rattle.power_index.proofs.SwingCounts.{swings-in-tables}
use Rattle.power_index.proofs.swings.Swings.of_member.Goals as goal

pub overflow_sub-result : goal.overflow_sub-result
overflow_sub-result c =
    let some = c.counts-winning.ensures.kept in
    let counted = swings-in-tables some.game c.args.self.now c.args.member some.is_game some.counts c.requires in grind (arith, counted)

pub returns-clause-swings : goal.returns-clause-swings
returns-clause-swings c g game are =
    let counted = swings-in-tables g c.args.self.now c.args.member game are c.requires in grind (arith, counted)

pub overflow_sub-result-2 : goal.overflow_sub-result-2
overflow_sub-result-2 c =
    let some = c.counts-winning.ensures.kept in
    let counted = swings-in-tables some.game c.args.self.now c.args.member some.is_game some.counts c.requires in grind (arith, counted)
