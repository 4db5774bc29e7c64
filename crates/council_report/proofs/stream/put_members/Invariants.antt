use Rattle.council_report.proofs.Imports.{flat_map, length, range_with_len, take, line_of_member, progress_of, KeepsReady}
use Rattle.council_report.specs.Sending.{Sending}
use Rattle.council_report.proofs.stream.put_members.Given as goal

abbrev pub invariant-loop-member : goal.invariant-loop-member
invariant-loop-member g l =
    KeepsReady (Sending g.W.Sink.is_write g.W.Sink.is_flush) (progress_of l.initial.writer l.initial.block) l.writer l.block
    (flat_map (line_of_member l.numbers) (take l.member (range_with_len 0 (length l.numbers.game.now.names))))
