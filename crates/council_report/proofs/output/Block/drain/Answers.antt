use Rattle.council_report.proofs.Imports.{◌≡◌, arith, length}
use Rattle.council_report.proofs.Sends.{drained}
use Rattle.council_report.specs.{Inner.Writing.Takes, Sending.Sending}
use Rattle.council_report.proofs.output.Block.drain.Goals as goal

pub returns-clause-calls : goal.returns-clause-calls
returns-clause-calls g c = λ rest end last block next.
    let block' = c.args.self.now in
    let all : c.len.result ≡ length block'.bytes.items = omega (arith, c.len.ensures, block'.bytes.ok) in
    let part : Takes (Sending g.W.Sink.is_write g.W.Sink.is_flush) block'.bytes.items c.args.writer.now c.write_whole-taken.new.writer c.write_whole-taken.result =
    rw c.deref.ensures.value at c.write_whole-taken.ensures in
    rw c.if-self.false (drained g.W.Sink.is_write g.W.Sink.is_flush c.args.writer.now c.write_whole-taken.new.writer block'.bytes.items block'.written
    c.write_whole-taken.result part rest end last block (rw (c.clear-2.ensures.items, all) at next))
