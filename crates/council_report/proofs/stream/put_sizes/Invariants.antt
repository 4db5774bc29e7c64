use Rattle.council_report.proofs.Imports.{flat_map, length, range_with_len, ◌-◌, take, line_of_size, progress_of, KeepsReady}
use Rattle.council_report.specs.Sending.{Sending}
use Rattle.council_report.proofs.stream.put_sizes.Given as goal

abbrev pub invariant-loop-size : goal.invariant-loop-size
invariant-loop-size g l =
    KeepsReady (Sending g.W.Sink.is_write g.W.Sink.is_flush) (progress_of l.initial.writer l.initial.block) l.writer l.block
    (flat_map (line_of_size l.numbers.game.now l.counts) (take (l.size - 1) (range_with_len 1 (length l.numbers.game.now.names))))
