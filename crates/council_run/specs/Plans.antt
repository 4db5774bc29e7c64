-- Plans: how the coalitions of a game are found, and how many there may be.
use Rattle.std.specs.Prelude.{ℕ, Bool, true, false, Option, Some, None, Result, Ok, Err}
use Rattle.council_game.specs.Options.{lines_of, without_list}
use Rattle.council_game.specs.declared.options.Options.{Options}
use Rattle.council_game.specs.declared.report_lines.ReportLines.{ReportLines}
use Rattle.mwc_gather.specs.declared.fault.GatherFault.TheVariants as gather
use Rattle.council_run.specs.declared.fault.Cause.{Cause}
use Rattle.council_run.specs.declared.fault.Cause.TheVariants as cause
use Rattle.council_run.specs.declared.fault.RunFault.{RunFault}
use Rattle.council_game.specs.declared.plan.Plan.{Plan}
use Rattle.council_game.specs.declared.plan.Plan.TheVariants as plan

-- the optional lines of the report: none for a coalition if they are only counted
abbrev pub lines_of_plan : Plan → Options → ReportLines
lines_of_plan plan.Count o = without_list (lines_of o)
lines_of_plan plan.List o = lines_of o
lines_of_plan plan.Either o = lines_of o

abbrev pub is_cause_many : Cause → Bool
is_cause_many (cause.Gather gather.TooMany) = true
is_cause_many other = false

-- there are too many coalitions
abbrev pub is_too_many : {A : Type 0} → Result A RunFault → Bool
is_too_many (Ok x) = false
is_too_many (Err fault) = is_cause_many fault.cause

-- How many coalitions a game has at most, if a plan does not fail since they are too many; and more
-- than how many, if it does. If they may be counted instead, a success sets no limit.
abbrev pub limit_of : Plan → ℕ → Bool → Option ℕ
limit_of plan.List most many = Some most
limit_of plan.Count most many = None
limit_of plan.Either most true = Some most
limit_of plan.Either most false = None
