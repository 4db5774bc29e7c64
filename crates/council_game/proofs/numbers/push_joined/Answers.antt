use Rattle.std.proofs.Common.{ℕ, List, ◌<◌, arith, length, append_assoc, length-append, take_all}
use Rattle.std.proofs.lemmas.Grind.{common_steps}
use Rattle.council_game.proofs.numbers.push_joined.Goals.{then-r-gt0+in_ok-extend_from_slice, else-r-gt0}
use Rattle.council_game.proofs.{Fronts.further, Fronts.still, Fronts.on-err, Room.takes-not, Room.room-is}
use Rattle.council_game.proofs.Shared.Joins.{put-first, put-more, more-within, next-within}
use Rattle.council_game.proofs.numbers.push_joined.Goals as goal

pub loop-r-preserved : goal.loop-r-preserved
loop-r-preserved g c = record {
  items = grind (arith, put-more, put-first);
  front = grind (arith, common_steps, further);
  capacity = grind (arith, room-is);
}

pub returns-clause-items : goal.returns-clause-items
returns-clause-items g c vs long each = grind (arith, take_all)

pub returns-clause-room : goal.returns-clause-room
returns-clause-room g c vs long each = record { capacity = c.loop-r.invariant.capacity; full = tt }

pub returns-in_err-extend_from_slice-clause-room : goal.returns-in_err-extend_from_slice-clause-room
returns-in_err-extend_from_slice-clause-room g c vs long each = grind (arith, common_steps, more-within, takes-not)

pub returns-in_err-push_decimal-clause-err : goal.returns-in_err-push_decimal-clause-err
returns-in_err-push_decimal-clause-err g c =
    let start : List ℕ = c.args.out.now.items in
    let more = c.loop-r.invariant.front in
    let same = c.in_err-push_decimal.ensures.err in
    elim c.if-r-gt0.branch [
      | then-r-gt0+in_ok-extend_from_slice w ↦
          on-err _ (still start (further start _ more w.in_ok-extend_from_slice.ensures.items) (rw w.out-is at same))
      | else-r-gt0 w ↦ on-err _ (still start more (rw w.out-is at same))
    ]

pub returns-in_err-push_decimal-clause-room : goal.returns-in_err-push_decimal-clause-room
returns-in_err-push_decimal-clause-room g c vs long each =
    let separator : List ℕ = c.args.separator.now in
    let below : c.loop-r.r < length vs = omega (arith, long, c.loop-r-test.true) in
    let before = c.loop-r.invariant.items vs long each in
    grind (arith, takes-not, room-is, append_assoc, more-within, length-append, next-within)
