use Rattle.council_game.specs.Lists.{joined}
use Rattle.council_report.proofs.report.write_report.Given as goal

abbrev pub ghost-write_report_of : goal.ghost-write_report_of
ghost-write_report_of g a = joined a.pieces.now
