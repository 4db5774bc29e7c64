-- What is found, or why it is not.
use Rattle.std.proofs.Common.{◌≡◌, ℕ, Option, None, Some, Ok, Err, Bool, true, false, refl, ap}
use Rattle.std.specs.Option.{option_map}
use Rattle.council_game.specs.Game.{GameView}
use Rattle.council_game.specs.declared.report_lines.ReportLines.{ReportLines}
use Rattle.council_run.proofs.Shared.Outcomes.{no-finding}
use Rattle.council_run.specs.declared.columns.Columns.{Columns}
use Rattle.council_run.specs.declared.columns.Columns.TheVariants as columns
use Rattle.council_run.specs.declared.fault.RunFault.{RunFault}
use Rattle.council_run.specs.declared.findings.Findings.TheVariants as findings
use Rattle.council_run.specs.declared.found.Found.{Found}
use Rattle.power_index.specs.Swings.{AreWinningCounts}
use Rattle.power_index.specs.declared.swings.Swings.{Swings}
use Rattle.council_c.specs.Inner.Calls.{MayFind, MayFindAll}

module _ (limit : Option ℕ) (lines : ReportLines) (visits : ℕ) (g : GameView) where
  pub finds-minimal : (o : Option Found) → MayFind limit lines visits g (Ok o)
      → MayFindAll columns.Minimal limit lines visits g (Ok (option_map findings.Minimal o))
  finds-minimal None h = h
  finds-minimal (Some found) h = (h.0, refl, h.1)

  pub finds-both : (swings : Swings) (o : Option Found) → AreWinningCounts g swings → MayFind limit lines visits g (Ok o)
      → MayFindAll columns.Both limit lines visits g (Ok (option_map (λ found. findings.Both found swings) o))
  finds-both swings None counts h = h
  finds-both swings (Some found) counts h = (h.0, refl, (h.1, counts))

  pub finds-nothing : (columns : Columns) (fault : RunFault) → MayFind limit lines visits g (Err fault)
      → MayFindAll columns limit lines visits g (Err fault)
  finds-nothing columns fault h = (no-finding columns limit g fault.cause h.0, h.1)
