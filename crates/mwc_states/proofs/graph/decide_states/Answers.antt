use Rattle.mwc_states.proofs.Building.{decided-more}
use Rattle.mwc_states.proofs.graph.decide_states.Goals as goal

pub loop-place-preserved : goal.loop-place-preserved
loop-place-preserved c = rw (c.in_ok-push-2.ensures, c.in_ok-push.ensures) (decided-more c.args.what c.args.member.now c.args.later.now.members.now c.args.table.now
    c.loop-place.next _ _ c.loop-place.place c.loop-place.invariant (rw c.deref.ensures.value (rw c.state-state.ensures at c.in_ok-decide.ensures))
    (rw c.deref-in-loop-place.ensures.value (rw c.state-state.ensures at c.in_ok-decide-2.ensures)))
