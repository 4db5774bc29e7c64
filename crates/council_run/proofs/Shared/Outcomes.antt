-- How a run ends.
use Rattle.std.proofs.Common.{◌≡◌, ℕ, List, Option, Result, Ok, Err, Some, ap, false, refl, subst, sym}
use Rattle.council_game.specs.declared.report_lines.ReportLines.{ReportLines}
use Rattle.council_game.specs.Game.{GameView}
use Rattle.council_game.specs.declared.fault.GameFault.{GameFault}
use Rattle.council_report.specs.declared.fault.ReportFault.{ReportFault}
use Rattle.council_report.specs.declared.fault.ReportFault.TheVariants as report
use Rattle.mwc_gather.specs.declared.fault.GatherFault.TheVariants as gather
use Rattle.council_run.specs.Shared.Finding.{IsNoFinding}
use Rattle.council_run.specs.Found.{Finds, IsNotFound}
use Rattle.council_run.specs.declared.columns.Columns.{Columns}
use Rattle.council_run.specs.Plans.{is_cause_many, is_too_many, limit_of}
use Rattle.council_run.specs.Run.{IsWithin, Stops}
use Rattle.council_run.specs.declared.fault.Cause.{Cause}
use Rattle.council_run.specs.declared.fault.Cause.TheVariants as cause
use Rattle.council_run.specs.declared.fault.RunFault.{RunFault}
use Rattle.council_run.specs.declared.found.Found.{Found}
use Rattle.council_game.specs.declared.plan.Plan.TheVariants as plan

-- a fault of the report is not that there are too many
pub is-not-many : (why : ReportFault) (e : RunFault) → (why ≡ report.Memory → e ≡ record { cause = cause.Memory; written = 0 })
    → ((n : ℕ) → why ≡ report.Write n → e ≡ record { cause = cause.Write; written = n }) → is_cause_many e.cause ≡ false
is-not-many report.Memory e memory write = ap (λ (e : RunFault). is_cause_many e.cause) (memory refl)
is-not-many (report.Write n) e memory write = ap (λ (e : RunFault). is_cause_many e.cause) (write n refl)

-- If the coalitions may be counted instead, there is a limit only if they are too many.
pub not-found-either : (most : ℕ) (g : GameView) (why : Cause) → IsNotFound (Some most) g why
    → IsNotFound (limit_of plan.Either most (is_cause_many why)) g why
not-found-either most g (cause.Game fault) h = absurd h
not-found-either most g (cause.Gather gather.TooMany) h = h
not-found-either most g (cause.Gather fault) h = tt
not-found-either most g cause.Write h = absurd h
not-found-either most g cause.Memory h = tt
not-found-either most g cause.States h = absurd h

pub finds-either : (most : ℕ) (lines : ReportLines) (g : GameView) (r : Result Found RunFault) → Finds (Some most) lines g r
    → Finds (limit_of plan.Either most (is_too_many r)) lines g r
finds-either most lines g (Ok found) h = (tt, h.1)
finds-either most lines g (Err fault) h = (not-found-either most g fault.cause h.0, h.1)

-- if coalitions were not found, that is why not all was
pub no-finding : (columns : Columns) (limit : Option ℕ) (g : GameView) (why : Cause) → IsNotFound limit g why → IsNoFinding columns limit g why
no-finding columns limit g (cause.Game fault) h = h
no-finding columns limit g (cause.Gather fault) h = h
no-finding columns limit g cause.Write h = h
no-finding columns limit g cause.Memory h = h
no-finding columns limit g cause.States h = absurd h

module _ (text : GameView → List ℕ) (limit : Option ℕ) (Read : Result GameView GameFault → Type 0)
    (Write : List ℕ → Result ℕ ReportFault → Type 0) (Kept : Type 0) where
  -- what it shows was not found
  pub stops-found : (columns : Columns) (g : GameView) (why : Cause) (n : ℕ) → n ≡ 0 → Kept → Read (Ok g) → IsNoFinding columns limit g why
      → Stops text limit Read Write Kept why n
  stops-found columns g (cause.Game fault) n none kept read h = absurd h
  stops-found columns g (cause.Gather gather.TooMany) n none kept read h = (none, kept, (g, read, h))
  stops-found columns g (cause.Gather fault) n none kept read h = (none, kept, (g, read))
  stops-found columns g cause.Write n none kept read h = absurd h
  stops-found columns g cause.Memory n none kept read h = (none, kept, (g, read))
  stops-found columns g cause.States n none kept read h = (none, kept, (g, read))

  -- its report was not written
  pub stops-report : (g : GameView) (why : ReportFault) (e : RunFault) → (why ≡ report.Memory → e ≡ record { cause = cause.Memory; written = 0 })
      → ((n : ℕ) → why ≡ report.Write n → e ≡ record { cause = cause.Write; written = n }) → (Write (text g) (Err report.Memory) → Kept)
      → Read (Ok g) → IsWithin limit g → Write (text g) (Err why) → Stops text limit Read Write Kept e.cause e.written
  stops-report g report.Memory e memory write kept read few h =
      subst (λ (e : RunFault). Stops text limit Read Write Kept e.cause e.written) (sym (memory refl))
      (refl, kept h, (g, read))
  stops-report g (report.Write n) e memory write kept read few h =
      subst (λ (e : RunFault). Stops text limit Read Write Kept e.cause e.written) (sym (write n refl)) (g, read, few, h)
