-- What a report is made from.
use Rattle.std.specs.Prelude.{◌≡◌, ℕ, List, All, Option, Result, Ok, Err, false, ⊤, ◌⊎◌}
use Rattle.std.specs.List.{flat_map, range_with_len}
use Rattle.council_game.specs.declared.report_lines.ReportLines.{ReportLines}
use Rattle.council_game.specs.Game.{GameView, votes_of}
use Rattle.council_game.specs.Votes.{minimal_coalitions}
use Rattle.mwc_gather.specs.declared.fault.GatherFault.{GatherFault}
use Rattle.mwc_gather.specs.declared.fault.GatherFault.TheVariants as gather
use Rattle.mwc_gather.specs.declared.gathered.Gathered.{Gathered}
use Rattle.mwc_gather.specs.Parts.{HasPieces}
use Rattle.power_index.specs.Tables.{AreCountsOfGame}
use Rattle.council_run.specs.Run.{IsWithin}
use Rattle.council_run.specs.declared.fault.Cause.{Cause}
use Rattle.council_run.specs.declared.fault.Cause.TheVariants as cause
use Rattle.council_run.specs.declared.fault.RunFault.{RunFault}
use Rattle.council_run.specs.declared.found.Coalitions.{Coalitions}
use Rattle.council_run.specs.declared.found.Coalitions.TheVariants as coalitions
use Rattle.council_run.specs.declared.found.Found.{Found}

-- the parts of the workers hold all of them, slice by slice
pub record HoldAll (g : GameView) (r : Gathered) : Type 0 where
  pub slice : ℕ → List ℕ
  pub pieces : All (HasPieces slice) r.parts.items
  pub whole : flat_map slice (range_with_len 0 r.slices) ≡ minimal_coalitions (votes_of g)

-- these are all of them; they may be left out only if no line shows them
abbrev pub AreListed : GameView → ReportLines → Coalitions → Type 0
AreListed g lines coalitions.Counted = lines.list ≡ false
AreListed g lines (coalitions.Whole list) = list.items ≡ minimal_coalitions (votes_of g)
AreListed g lines (coalitions.Parts r) = HoldAll g r

-- what the report of a game with these lines is made from
abbrev pub IsFound : GameView → ReportLines → Found → Type 0
IsFound g lines found = AreCountsOfGame g found.counts.value × AreListed g lines found.coalitions

-- why the coalitions of a game were not found: too many are only more than are taken
abbrev pub IsNotFound : Option ℕ → GameView → Cause → Type 0
IsNotFound limit g (cause.Game fault) = ⊥
IsNotFound limit g (cause.Gather gather.TooMany) = IsWithin limit g → ⊥
IsNotFound limit g (cause.Gather fault) = ⊤
IsNotFound limit g cause.Write = ⊥
IsNotFound limit g cause.States = ⊥
IsNotFound limit g cause.Memory = ⊤

-- what finding them returns: if it fails, nothing was written
abbrev pub Finds : Option ℕ → ReportLines → GameView → Result Found RunFault → Type 0
Finds limit lines g (Ok found) = IsWithin limit g × IsFound g lines found
Finds limit lines g (Err fault) = IsNotFound limit g fault.cause × (fault.written ≡ 0)

-- a fault of the gathering is only this one
abbrev pub GatherFaultIs : {A : Type 0} → GatherFault → Result A RunFault → Type 0
GatherFaultIs why (Ok x) = ⊤
GatherFaultIs why (Err fault) = (other : GatherFault) → fault.cause ≡ cause.Gather other → other ≡ why

-- Workers that count stop only if memory runs out, or if one of them could not be started.
abbrev pub IsWorkersFault : RunFault → Type 0
IsWorkersFault fault = ((fault.cause ≡ cause.Memory) ⊎ (fault.cause ≡ cause.Gather gather.Start)) × (fault.written ≡ 0)
