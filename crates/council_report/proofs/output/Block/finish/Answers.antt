use Rattle.council_report.proofs.Imports.{[], inr, refl}
use Rattle.council_report.specs.Sending.{flushed, flush_fails}
use Rattle.council_report.proofs.output.Block.finish.Goals as goal

pub returns-in-Ok : goal.returns-in-Ok
returns-in-Ok g c = c.drain.ensures.calls [] _ c.flush_once.new.self (inr refl)
    (rw (c.if-self.false, c.drain.ensures.empty) (flushed c.drain.new.writer c.flush_once.new.self c.drain.new.self.written c.in-Ok.ensures))

pub returns : goal.returns
returns g c = c.drain.ensures.calls [] _ c.flush_once.new.self (inr refl)
    (rw (c.if-self.false, c.drain.ensures.empty) (flush_fails c.drain.new.writer c.flush_once.new.self c.drain.new.self.written c.in-Err.field-0 c.in-Err.ensures))
