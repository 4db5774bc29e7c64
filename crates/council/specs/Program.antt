-- What the program writes, and the status that it ends with.
use Rattle.std.specs.Prelude.{◌≡◌, ℕ, List, Bool, true, false, Result, Ok, Err}
use Rattle.std.specs.Process.{exit_status}
use Rattle.std.specs.declared.process.ExitCode.{ExitCode}
use Rattle.council_game.specs.Game.{GameView}
use Rattle.council_game.specs.declared.fault.GameFault.{GameFault}
use Rattle.council_report.specs.declared.fault.ReportFault.{ReportFault}
use Rattle.council_run.specs.Columns.{limit_with, report_of}
use Rattle.council_run.specs.Plans.{is_too_many, lines_of_plan}
use Rattle.council_run.specs.Run.{IsOutcome}
use Rattle.council_run.specs.Status.{status_of}
use Rattle.council_run.specs.declared.columns.Columns.{Columns}
use Rattle.council_run.specs.declared.columns.Columns.TheVariants as columns
use Rattle.council_run.specs.declared.fault.RunFault.{RunFault}
use Rattle.council_words.specs.declared.words.Arguments.{Arguments}

-- which numbers are shown, if swings are asked for, and if only these
abbrev pub columns_of : Bool → Bool → Columns
columns_of swings true = columns.Swings
columns_of true false = columns.Both
columns_of false false = columns.Minimal

-- the status after a run: 0 only if its report was written
abbrev pub status_after : Result ℕ RunFault → ℕ
status_after (Ok len) = 0
status_after (Err fault) = status_of fault.cause

-- the outcome of the run that the arguments ask for
abbrev pub IsOutcomeOf : Arguments → (Result GameView GameFault → Type 0) → (List ℕ → Result ℕ ReportFault → Type 0) → Type 0
    → Result ℕ RunFault → Type 0
IsOutcomeOf a Read Write Kept outcome =
    let columns = columns_of a.swings a.only_swings in
    IsOutcome (report_of columns (lines_of_plan a.plan a.options)) (limit_with columns a.plan a.options.most (is_too_many outcome))
    Read Write Kept outcome

-- the status is that of such an outcome
abbrev pub Ends : Arguments → (Result GameView GameFault → Type 0) → (List ℕ → Result ℕ ReportFault → Type 0) → Type 0 → ExitCode → Type 0
Ends a Read Write Kept status = (outcome : Result ℕ RunFault) × IsOutcomeOf a Read Write Kept outcome × (exit_status status ≡ status_after outcome)
