-- All that a report is made from.
use Rattle.council_game.specs.declared.report_lines.ReportLines.{ReportLines}
use Rattle.council_game.specs.Game.{GameView}
use Rattle.power_index.specs.Swings.{AreWinningCounts}
use Rattle.council_run.specs.Found.{IsFound}
use Rattle.council_run.specs.declared.columns.Columns.{Columns}
use Rattle.council_run.specs.declared.columns.Columns.TheVariants as columns
use Rattle.council_run.specs.declared.findings.Findings.{Findings}
use Rattle.council_run.specs.declared.findings.Findings.TheVariants as findings

-- what is shown of findings
abbrev pub columns_of : Findings → Columns
columns_of (findings.Minimal found) = columns.Minimal
columns_of (findings.Both found swings) = columns.Both
columns_of (findings.Swings swings) = columns.Swings

-- what the report of a game with these lines is made from
abbrev pub AreFindings : ReportLines → GameView → Findings → Type 0
AreFindings lines g (findings.Minimal found) = IsFound g lines found
AreFindings lines g (findings.Both found swings) = IsFound g lines found × AreWinningCounts g swings
AreFindings lines g (findings.Swings swings) = AreWinningCounts g swings
