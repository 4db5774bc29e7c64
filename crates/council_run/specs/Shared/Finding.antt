-- All that a report is made from, or why it was not found.
use Rattle.std.specs.Prelude.{◌≡◌, ℕ, Option, Result, Ok, Err}
use Rattle.council_game.specs.declared.report_lines.ReportLines.{ReportLines}
use Rattle.council_game.specs.Game.{GameView}
use Rattle.council_run.specs.Columns.{MayHaveManyStates}
use Rattle.council_run.specs.Findings.{AreFindings, columns_of}
use Rattle.council_run.specs.Found.{IsNotFound}
use Rattle.council_run.specs.Run.{IsWithin}
use Rattle.council_run.specs.declared.columns.Columns.{Columns}
use Rattle.council_run.specs.declared.fault.Cause.{Cause}
use Rattle.council_run.specs.declared.fault.Cause.TheVariants as cause
use Rattle.council_run.specs.declared.fault.RunFault.{RunFault}
use Rattle.council_run.specs.declared.findings.Findings.{Findings}

-- Why not all was found: there are too many states only for the swings of more than 20 members.
abbrev pub IsNoFinding : Columns → Option ℕ → GameView → Cause → Type 0
IsNoFinding columns limit g cause.States = MayHaveManyStates columns g
IsNoFinding columns limit g why = IsNotFound limit g why

-- what finding all of them returns: if it fails, nothing was written
abbrev pub FindsAll : Columns → Option ℕ → ReportLines → GameView → Result Findings RunFault → Type 0
FindsAll columns limit lines g (Ok found) = IsWithin limit g × (columns_of found ≡ columns) × AreFindings lines g found
FindsAll columns limit lines g (Err fault) = IsNoFinding columns limit g fault.cause × (fault.written ≡ 0)
