use Rattle.council_report.specs.{Outcome.Writes, Report.report_over}
use Rattle.council_report.proofs.Imports.{append-nil, subst}
use Rattle.council_report.proofs.report.write_report.Goals as goal

pub returns : goal.returns
returns g c =
    subst (λ l. Writes g.W.Sink.held g.W.Sink.is_write g.W.Sink.is_flush (report_over c.args.shown c.args.game.now l) c.args.writer.now
    c.write_report_of.new.writer c.write_report_of.result) (append-nil c.args.list.now) c.write_report_of.ensures
