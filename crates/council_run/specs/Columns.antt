-- Which numbers a report shows.
use Rattle.std.specs.Prelude.{ℕ, ◌<◌, List, Bool, Option, None, length}
use Rattle.council_game.specs.declared.limits.TheConstants.{PLAIN_MEMBERS}
use Rattle.council_game.specs.declared.plan.Plan.{Plan}
use Rattle.council_game.specs.declared.report_lines.ReportLines.{ReportLines}
use Rattle.council_game.specs.Game.{GameView}
use Rattle.council_report.specs.Report.{report}
use Rattle.council_report.specs.SwingLines.{report_with_swings, swings_report}
use Rattle.council_run.specs.Plans.{limit_of}
use Rattle.council_run.specs.declared.columns.Columns.{Columns}
use Rattle.council_run.specs.declared.columns.Columns.TheVariants as columns

-- the report that shows these numbers
abbrev pub report_of : Columns → ReportLines → GameView → List ℕ
report_of columns.Minimal lines g = report lines g
report_of columns.Both lines g = report_with_swings lines g
report_of columns.Swings lines g = swings_report lines g

-- the limit of a plan, if minimal winning coalitions are found at all
abbrev pub limit_with : Columns → Plan → ℕ → Bool → Option ℕ
limit_with columns.Minimal plan most many = limit_of plan most many
limit_with columns.Both plan most many = limit_of plan most many
limit_with columns.Swings plan most many = None

-- Swings are shown, of a game that may have too many states for them.
abbrev pub MayHaveManyStates : Columns → GameView → Type 0
MayHaveManyStates columns.Minimal g = ⊥
MayHaveManyStates columns.Both g = PLAIN_MEMBERS < length g.names
MayHaveManyStates columns.Swings g = PLAIN_MEMBERS < length g.names
