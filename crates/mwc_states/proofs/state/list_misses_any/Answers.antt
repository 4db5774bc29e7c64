use Rattle.mwc_states.proofs.{Imports.arith, Imports.nat_tests, Leaving.misses-more}
use Rattle.mwc_states.proofs.state.list_misses_any.Goals as goal

pub loop-miss-preserved : goal.loop-miss-preserved
loop-miss-preserved c set fitting =
    let more = misses-more c.args.later.now.members.now c.args.member.now c.args.taken c.args.old_misses.now c.reduce.result set c.loop-miss.miss-index
    c.loop-miss-test.true c.reduce.ensures in
    grind (arith, nat_tests, more, c.in_ok-add_miss_any.ensures set fitting, c.loop-miss.invariant set fitting)
