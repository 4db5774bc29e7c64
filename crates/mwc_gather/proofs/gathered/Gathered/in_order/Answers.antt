use Rattle.mwc_gather.proofs.Imports.{flat_map_more, range_with_len}
use Rattle.std.proofs.Common.{zero-add, []}
use Rattle.council_game.proofs.Shared.Ranges.{range-more}
use Rattle.mwc_gather.proofs.gathered.Gathered.in_order.Goals as goal

pub loop-j-preserved : goal.loop-j-preserved
loop-j-preserved c = λ slice all.
    let more = rw zero-add at (range-more 0 c.loop-j.j) in
    rw (c.in_ok-extend_from_slice.ensures.items, c.loop-j.invariant slice all, c.piece.ensures slice all, more)
    (flat_map_more slice [] (range_with_len 0 c.loop-j.j) c.loop-j.j)
