use Rattle.std.proofs.Common.{◌≡◌, ◌^◌, arith, flat_map}
use Rattle.std.specs.List.{range_with_len}
use Rattle.power_index.proofs.Shared.Sound.{total-is, tallies-are_counts}
use Rattle.mwc_tally.proofs.Counting.{all-slices, slices-room, slices-more}
use Rattle.mwc_tally.specs.Inner.SliceCounts.{slice_of}
use Rattle.mwc_tally.proofs.threads.one_by_one.Goals as goal

pub add-requires-clause-room : goal.add-requires-clause-room
add-requires-clause-room g c =
    let own = total-is c.args.slices.game.now (flat_map (slice_of c.args.slices) (range_with_len 0 c.loop-slice.slice)) c.loop-slice.counts.value c.loop-slice.invariant in
    let one = total-is c.args.slices.game.now (slice_of c.args.slices c.loop-slice.slice) c.count_slice.result c.count_slice.ensures in
    let room = slices-room c.args.slices c.loop-slice.slice c.loop-slice.invariant.of_game.is_game
    (omega (arith, c.loop-slice-test.true, c.count-slice-end.ensures)) in
    rw c.deref_mut.ensures.value (omega (arith, own, one, room))

pub loop-slice-preserved : goal.loop-slice-preserved
loop-slice-preserved g c =
    rw (slices-more c.args.slices c.loop-slice.slice) at
    (c.add.ensures.tallies c.args.slices.game.now (flat_map (slice_of c.args.slices) (range_with_len 0 c.loop-slice.slice)) _ (rw c.deref_mut.ensures.value c.loop-slice.invariant) c.count_slice.ensures)

pub returns : goal.returns
returns g c =
    let last : c.loop-slice.slice ≡ 2 ^ c.args.slices.bits =
    omega (arith, c.loop-slice-test.false, c.loop-slice.auto, c.count-slice-end.ensures) in
    rw (all-slices c.args.slices) at (tallies-are_counts c.args.slices.game.now _ _ (rw last at c.loop-slice.invariant))
