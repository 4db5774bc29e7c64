use Rattle.mwc_states.proofs.{Imports.arith, Merging.listed-more, Merging.listed-none}
use Rattle.mwc_states.proofs.sums.+list.Goals as goal

pub returns-in_default : goal.returns-in_default
returns-in_default t c few = listed-none c.args.rule c.args.members.now _ c.in_default.ensures.cases (rw c.requires.none at c.in_ok-push.ensures.items)

pub returns : goal.returns
returns t c few =
    rw c.in-Some.ensures.cases.0 (listed-more (c.in_ok-list.ensures (omega arith)) (rw c.deref.ensures.value at c.in_ok-add_member.ensures))
