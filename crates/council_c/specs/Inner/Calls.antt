-- A call: what its words ask for, read; and what it finds.
use Rattle.std.specs.Prelude.{◌≡◌, ◌<◌, ℕ, true, false, List, Option, Some, None, Result, Ok, Err}
use Rattle.council_game.specs.declared.report_lines.ReportLines.{ReportLines}
use Rattle.council_game.specs.Options.{lines_of as lines_in}
use Rattle.council_game.specs.Game.{GameView}
use Rattle.council_run.specs.Found.{Finds}
use Rattle.council_run.specs.Shared.Finding.{FindsAll}
use Rattle.council_run.specs.declared.columns.Columns.{Columns}
use Rattle.council_run.specs.declared.fault.RunFault.{RunFault}
use Rattle.council_run.specs.declared.findings.Findings.{Findings}
use Rattle.council_run.specs.declared.found.Found.{Found}
use Rattle.council_c.specs.Asked.{are_wrong, asks, asks_swings, columns_of, has_size, lines_of, most_of, visits_of, ways_of}
use Rattle.council_c.specs.Bounded.{IsTooLong}
use Rattle.council_run.specs.Run.{count_of}
use Rattle.mwc_walk.specs.Listed.{ListsAll}
use Rattle.council_c.specs.declared.bounded.Listed.{Listed}
use Rattle.council_c.specs.declared.bounded.Listed.TheVariants as listed
use Rattle.council_c.specs.declared.fault.Fault.{Fault}
use Rattle.council_c.specs.declared.fault.Fault.TheVariants as fault
use Rattle.council_c.specs.Indices.{HoldArrays, IsRight, Request}
use Rattle.council_c.specs.Masks.{masks_of}
use Rattle.council_c.specs.declared.arrays.Arrays.{Arrays}
use Rattle.council_c.specs.declared.indices.Ready.{Ready}
use Rattle.council_c.specs.declared.options.Call.{Call}
use Rattle.council_c.specs.declared.results.CouncilSummary.{CouncilSummary}

-- the words ask for this call
pub record IsCall (ws : List ℕ) (call : Call) : Type 0 where
  pub size : has_size ws ≡ true
  pub right : are_wrong ws ≡ false
  pub lines : lines_in call.options ≡ lines_of ws
  pub most : call.options.most ≡ most_of ws
  pub tally : call.tally ≡ asks ws 4
  pub bare : call.tally ≡ true → call.options.list ≡ false
  pub columns : call.columns ≡ columns_of ws
  pub swings : call.swings ≡ asks_swings ws
  pub visits : call.visits ≡ visits_of ws
  pub ways : call.ways ≡ ways_of ws

-- no call takes the words
abbrev pub Refuses : List ℕ → Fault → Type 0
Refuses ws fault.Size = has_size ws ≡ false
Refuses ws fault.Options = (has_size ws ≡ true) × (are_wrong ws ≡ true)
Refuses ws why = ⊥

-- the arrays of a call
abbrev pub request_of : Arrays → Request
request_of a = record { quotas = a.quotas.now; weights = a.weights.now; members = a.members; words = a.words.now }

-- the game of a call, and what is asked of it
abbrev pub IsReady : Request → CouncilSummary → Ready → Type 0
IsReady r s ready = IsRight r s × IsCall r.words ready.call × HoldArrays r (Ok ready.game)

-- the masks of the game that a call holds
abbrev pub AreMasksOf : Request → CouncilSummary → List ℕ → Type 0
AreMasksOf r s masks = IsRight r s × ((g : GameView) × HoldArrays r (Ok g) × (masks ≡ masks_of g))

-- what finding the coalitions returns; nothing if a walk took all its visits
abbrev pub MayFind : Option ℕ → ReportLines → ℕ → GameView → Result (Option Found) RunFault → Type 0
MayFind limit lines visits g (Ok (Some found)) = Finds limit lines g (Ok found)
MayFind limit lines visits g (Ok None) = IsTooLong visits g
MayFind limit lines visits g (Err fault) = Finds limit lines g (Err fault)

-- the same for all that a report is made from
abbrev pub MayFindAll : Columns → Option ℕ → ReportLines → ℕ → GameView → Result (Option Findings) RunFault → Type 0
MayFindAll columns limit lines visits g (Ok (Some found)) = FindsAll columns limit lines g (Ok found)
MayFindAll columns limit lines visits g (Ok None) = IsTooLong visits g
MayFindAll columns limit lines visits g (Err fault) = FindsAll columns limit lines g (Err fault)

-- what a walk lists: all coalitions, or why there is no list
abbrev pub IsListed : GameView → ℕ → Type 0 → Listed → Type 0
IsListed g most Long (listed.All list) = ListsAll g most list.items
IsListed g most Long listed.TooMany = most < count_of g
IsListed g most Long listed.TooLong = Long
