use Rattle.council_report.proofs.Imports.{take, flat_map, coalition_line, IsReadyLine, progress_of, KeepsReady}
use Rattle.council_report.specs.Sending.{Sending}
use Rattle.council_report.proofs.stream.put_coalitions.Given as goal

abbrev pub invariant-loop-coalition : goal.invariant-loop-coalition
invariant-loop-coalition g l = record {
  keeps : KeepsReady (Sending g.W.Sink.is_write g.W.Sink.is_flush) (progress_of l.initial.writer l.initial.block) l.writer l.block
      (flat_map (coalition_line l.game) (take l.coalition-index l.list));
  line : IsReadyLine l.game l.line;
}
