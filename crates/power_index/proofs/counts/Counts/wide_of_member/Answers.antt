use Rattle.power_index.proofs.Imports.{arith}
use Rattle.power_index.proofs.counts.Counts.wide_of_member.Goals as goal

pub total-requires-clause-room : goal.total-requires-clause-room
total-requires-clause-room c =
    let few = c.self.invariant.sound.few_of_member c.args.member (rw (← c.self.view_is) at c.requires) in
    omega (arith, few, c.self.invariant.sound.few)

pub returns-clause-few : goal.returns-clause-few
returns-clause-few c =
    let few = c.self.invariant.sound.few_of_member c.args.member (rw (← c.self.view_is) at c.requires) in
    rw (← c.self.view_is) (omega (arith, few, c.total.ensures))
