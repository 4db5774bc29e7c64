use Rattle.council_report.proofs.Imports.{◌+◌, ◌-◌, ◌≤◌, ℕ, List, Result, length, drop}
use Rattle.council_report.specs.Sending.{Sending}
use Rattle.council_report.proofs.output.write_whole.Given as goal

-- however it goes on with the bytes that are left, it is a sending of all of them
abbrev pub invariant-loop-written : goal.invariant-loop-written
invariant-loop-written g l = record {
  within : l.written ≤ length l.bytes;
  calls : (rest : List ℕ) (count : ℕ) (end : Result ℕ ℕ) (last : g.row.W.Denot)
      → Sending g.W.Sink.is_write g.W.Sink.is_flush l.writer (drop l.written l.bytes) rest (count + l.written) end last
      → Sending g.W.Sink.is_write g.W.Sink.is_flush l.initial.writer l.bytes rest count end last;
}

abbrev pub decreases-loop-written : goal.decreases-loop-written
decreases-loop-written g l = length l.bytes - l.written
