use Rattle.council_game.specs.Lists.{joined}
use Rattle.council_report.specs.Outcome.{Writes}
use Rattle.council_report.proofs.FromCounts.{report-same}
use Rattle.council_report.proofs.Imports.{Some, lines_of, refl, subst}
use Rattle.council_report.proofs.report.write_report_of.Goals as goal

pub returns : goal.returns
unfolding lines_of
returns g c =
    let some = c.requires.1.0 in
    let counts = c.requires.1.1.1.1.1.0 in
    subst (λ t. Writes g.W.Sink.held g.W.Sink.is_write g.W.Sink.is_flush t c.args.writer.now c.write_numbers.new.writer c.write_numbers.result)
    (report-same (λ t. t.now) c.args.shown c.args.game.now (Some c.args.counts) c.args.swings (joined c.args.pieces.now) g.list
    (c.are_some_counts.ensures g.list some counts) counts refl c.requires.1.1.1.0) c.write_numbers.ensures
