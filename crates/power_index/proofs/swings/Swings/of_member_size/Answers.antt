use Rattle.std.proofs.Common.{arith, ◌-◌}
use Rattle.power_index.proofs.{Shared.Winning.winning-few, SwingCounts.fewer-in-tables, SwingCounts.none-of-size-0, SwingCounts.sizes-in-tables}
use Rattle.power_index.proofs.swings.Swings.of_member_size.Goals as goal

pub returns-then-size-eq0-clause-swings : goal.returns-then-size-eq0-clause-swings
returns-then-size-eq0-clause-swings c g game are =
    let none = none-of-size-0 g c.args.self.now c.args.member game are c.requires.member in grind (arith, none)

pub overflow_sub-without_member : goal.overflow_sub-without_member
overflow_sub-without_member c =
    let some = c.counts-winning.ensures.kept in
    let fewer = fewer-in-tables some.game c.args.self.now c.args.member (c.args.size - 1) some.counts c.requires.member in grind (arith, fewer)

pub overflow_sub-result : goal.overflow_sub-result
overflow_sub-result c =
    let some = c.counts-winning.ensures.kept in
    let counted = sizes-in-tables some.game c.args.self.now c.args.member c.args.size some.is_game some.counts c.requires.member in
    grind (arith, counted)

pub returns-clause-swings : goal.returns-clause-swings
returns-clause-swings c g game are =
    let counted = sizes-in-tables g c.args.self.now c.args.member c.args.size game are c.requires.member in
    let fewer = fewer-in-tables g c.args.self.now c.args.member (c.args.size - 1) are c.requires.member in
    grind (arith, counted, fewer)

pub returns-clause-few : goal.returns-clause-few
returns-clause-few c =
    let some = c.counts-winning.ensures.kept in
    let few = winning-few some.game some.is_game in grind (arith, few, some.counts.total)
