use Rattle.council_report.proofs.Imports.{ℕ, ap, arith, common_steps, length, subst, List}
use Rattle.std.proofs.Common.{add-zero, length-drop}
use Rattle.council_report.specs.Sending.{Sending}
use Rattle.council_report.proofs.Sends.{bytes-from, takes-more, takes-no-more}
use Rattle.council_report.proofs.output.write_whole.Goals as goal

pub loop-written-init : goal.loop-written-init
loop-written-init g c = record {
  within = omega arith;
  calls = λ rest count end last h.
      subst (λ (n : ℕ). Sending g.W.Sink.is_write g.W.Sink.is_flush c.args.writer.now c.args.bytes.now rest n end last) (add-zero count) h;
}

pub loop-written-preserved : goal.loop-written-preserved
loop-written-preserved g c =
    let few = (g.met.W.Sink.writes c.loop-written.writer c.write_once.new.self _ _ c.in-Ok.ensures).0 in
    let long = ap (λ (t : List ℕ). length t) (bytes-from c.args.bytes.now c.loop-written.written) in
    record {
      within = omega (arith, few, long, length-drop c.loop-written.written c.args.bytes.now);
      calls = λ rest count end last next. c.loop-written.invariant.calls rest count end last
          (takes-more g.W.Sink.is_write g.W.Sink.is_flush c.loop-written.writer c.write_once.new.self last c.args.bytes.now rest
          c.loop-written.written c.in-Ok.count count end (omega arith) c.in-Ok.ensures next);
    }

pub returns-in-Ok-eq0 : goal.returns-in-Ok-eq0
returns-in-Ok-eq0 g c = record {
  within = omega arith;
  all = λ is. absurd (omega (arith, is));
  part = λ less rest count. c.loop-written.invariant.calls rest count _ c.write_once.new.self
      (takes-no-more g.W.Sink.is_write g.W.Sink.is_flush c.loop-written.writer c.write_once.new.self c.args.bytes.now rest
      c.loop-written.written count c.write_once.result (grind (arith, common_steps)) (omega arith) c.write_once.ensures);
}

pub returns-in-Ok-eq0-2 : goal.returns-in-Ok-eq0-2
returns-in-Ok-eq0-2 g c = record {
  within = omega arith;
  all = λ is. absurd (omega (arith, is));
  part = λ less rest count. c.loop-written.invariant.calls rest count _ c.write_once.new.self
      (takes-no-more g.W.Sink.is_write g.W.Sink.is_flush c.loop-written.writer c.write_once.new.self c.args.bytes.now rest
      c.loop-written.written count c.write_once.result (grind (arith, common_steps)) (omega arith) c.write_once.ensures);
}
