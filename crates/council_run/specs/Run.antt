-- What a run reads, writes and returns.
use Rattle.std.specs.Prelude.{◌≡◌, ◌≤◌, ℕ, List, length, Option, IfSome, Result, Ok, Err}
use Rattle.council_game.specs.declared.fault.GameFault.{GameFault}
use Rattle.council_game.specs.Votes.{minimal_coalitions}
use Rattle.council_game.specs.Game.{GameView, votes_of}
use Rattle.council_file.specs.File.{game_of}
use Rattle.council_report.specs.declared.fault.ReportFault.{ReportFault}
use Rattle.council_report.specs.declared.fault.ReportFault.TheVariants as report
use Rattle.mwc_gather.specs.declared.fault.GatherFault.TheVariants as gather
use Rattle.council_run.specs.declared.fault.Cause.{Cause}
use Rattle.council_run.specs.declared.fault.Cause.TheVariants as cause
use Rattle.council_run.specs.declared.fault.RunFault.{RunFault}

-- these bytes hold this game, or this first fault
abbrev pub Holds : List ℕ → Result GameView GameFault → Type 0
Holds bytes answer = game_of bytes ≡ answer

-- the number of minimal winning coalitions of a game
abbrev pub count_of : GameView → ℕ
count_of g = length (minimal_coalitions (votes_of g))

-- a game with at most as many as the limit says, if there is one
abbrev pub IsWithin : Option ℕ → GameView → Type 0
IsWithin limit g = IfSome limit (λ most. count_of g ≤ most)

-- A run stops before it writes, unless the cause is Write. The fault of a game, and the game, are
-- those that were read; `Write` says what writing a text does, and `Kept` that nothing was written.
abbrev pub Stops : (GameView → List ℕ) → Option ℕ → (Result GameView GameFault → Type 0) → (List ℕ → Result ℕ ReportFault → Type 0)
    → Type 0 → Cause → ℕ → Type 0
Stops text limit Read Write Kept (cause.Game fault) written = (written ≡ 0) × Kept × Read (Err fault)
Stops text limit Read Write Kept (cause.Gather gather.TooMany) written = (written ≡ 0) × Kept × ((g : GameView) × Read (Ok g) × (IsWithin limit g → ⊥))
Stops text limit Read Write Kept cause.Write written = (g : GameView) × Read (Ok g) × IsWithin limit g × Write (text g) (Err (report.Write written))
Stops text limit Read Write Kept why written = (written ≡ 0) × Kept × ((g : GameView) × Read (Ok g))

-- A run that succeeds wrote the text of the game that it read, and nothing else; the game is within
-- its limit.
abbrev pub IsOutcome : (GameView → List ℕ) → Option ℕ → (Result GameView GameFault → Type 0) → (List ℕ → Result ℕ ReportFault → Type 0)
    → Type 0 → Result ℕ RunFault → Type 0
IsOutcome text limit Read Write Kept (Ok len) = (g : GameView) × Read (Ok g) × IsWithin limit g × Write (text g) (Ok len)
IsOutcome text limit Read Write Kept (Err fault) = Stops text limit Read Write Kept fault.cause fault.written
