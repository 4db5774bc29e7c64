-- The optional lines of a report.
use Rattle.std.specs.Prelude.{false}
use Rattle.council_game.specs.declared.options.Options.{Options}
use Rattle.council_game.specs.declared.report_lines.ReportLines.{ReportLines}

-- the lines that the options of a run ask for
abbrev pub lines_of : Options → ReportLines
lines_of o = record { list = o.list; sizes = o.sizes; notation = o.notation }

-- these lines without a line for each coalition
abbrev pub without_list : ReportLines → ReportLines
without_list l = record l { list = false }
