use Rattle.std.proofs.Common.{arith}
use Rattle.mwc_tally.proofs.Counting.{counted-step, slice-next, slice-room}
use Rattle.mwc_tally.proofs.slice.count_slice.Goals as goal

pub count-requires-clause-some : goal.count-requires-clause-some
count-requires-clause-some g c = (slice-next c.args.slices c.args.j c.in-Some.ensures c.loop-coalition.invariant).0

pub count-requires-clause-below : goal.count-requires-clause-below
count-requires-clause-below g c =
    rw c.loop-coalition.invariant.tallies.of_game.members
    (slice-next c.args.slices c.args.j c.in-Some.ensures c.loop-coalition.invariant).1

pub count-requires-clause-room : goal.count-requires-clause-room
count-requires-clause-room g c = slice-room c.args.slices c.args.j c.in-Some.ensures c.loop-coalition.invariant

pub loop-coalition-preserved : goal.loop-coalition-preserved
loop-coalition-preserved g c =
    counted-step c.in-Some.ensures c.loop-coalition.invariant _ (c.count.ensures.tallies c.args.slices.game.now)
