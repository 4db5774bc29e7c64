-- What a call answers.
use Rattle.std.specs.Prelude.{◌≡◌, ℕ, List, ◌++◌, length, take, drop, ◌⊎◌, ◌||◌, true, false, Ok, Err, Option, ⊤, codes}
use Rattle.council_game.specs.declared.fault.GameFault.TheVariants as game
use Rattle.council_game.specs.Game.{GameView}
use Rattle.council_run.specs.Columns.{MayHaveManyStates, report_of}
use Rattle.council_run.specs.declared.columns.Columns.{Columns}
use Rattle.council_run.specs.Run.{Holds, IsWithin}
use Rattle.council_run.specs.Status.{status_of, text_of}
use Rattle.council_run.specs.declared.fault.Cause.{Cause}
use Rattle.council_run.specs.declared.fault.Cause.TheVariants as cause
use Rattle.mwc_gather.specs.declared.fault.GatherFault.TheVariants as gather
use Rattle.council_c.specs.declared.fault.Fault.{Fault}
use Rattle.council_c.specs.declared.fault.Fault.TheVariants as fault
use Rattle.council_c.specs.Asked.{are_wrong, columns_of, has_size, have_ways, lines_of, limit_of, visits_of}
use Rattle.council_c.specs.Bounded.{IsTooLong}

-- a buffer has a text at its front, as much of it as fits; the rest of the buffer is unchanged
unfoldable pub Shows : List ℕ → List ℕ → List ℕ → Type 0
Shows text before after = after ≡ take (length before) text ++ drop (length text) before

-- The text is that of the game that the bytes hold, `len` is its length, and the buffer shows it.
abbrev pub FillsBy : (GameView → List ℕ) → Option ℕ → List ℕ → List ℕ → List ℕ → ℕ → Type 0
FillsBy text limit bytes before after len =
    (g : GameView) × Holds bytes (Ok g) × IsWithin limit g × (len ≡ length (text g)) × Shows (text g) before after

-- the options have their size, and a call with a game file takes them
abbrev pub AreRight : List ℕ → Type 0
AreRight ws = (has_size ws ≡ true) × (are_wrong ws ≡ false) × (have_ways ws ≡ false)

-- the options are right, and it is a report of the game that the bytes hold
abbrev pub Reports : List ℕ → List ℕ → List ℕ → List ℕ → ℕ → Type 0
Reports ws bytes before after len =
    AreRight ws × FillsBy (report_of (columns_of ws) (lines_of ws)) (limit_of ws) bytes before after len

-- The bytes hold this fault, or a game of which no report was made. No read, write, thread or ring
-- is a cause, and too many states are one only if swings of more than 20 members are shown.
abbrev pub StopsOn : Columns → Option ℕ → List ℕ → Cause → Type 0
StopsOn columns limit bytes (cause.Game game.Read) = ⊥
StopsOn columns limit bytes (cause.Game game.Memory) = ⊤
StopsOn columns limit bytes (cause.Game fault) = Holds bytes (Err fault)
StopsOn columns limit bytes (cause.Gather gather.TooMany) = (g : GameView) × Holds bytes (Ok g) × (IsWithin limit g → ⊥)
StopsOn columns limit bytes (cause.Gather fault) = ⊥
StopsOn columns limit bytes cause.Write = ⊥
StopsOn columns limit bytes cause.Memory = (g : GameView) × Holds bytes (Ok g)
StopsOn columns limit bytes cause.States = (g : GameView) × Holds bytes (Ok g) × MayHaveManyStates columns g

-- the bytes hold a game over which a walk may take so many visits
abbrev pub TakesTooLong : ℕ → List ℕ → Type 0
TakesTooLong visits bytes = (g : GameView) × Holds bytes (Ok g) × IsTooLong visits g

-- Why there is none: the size or the options are wrong, or they are right, and a walk takes more
-- visits than it may or a run on these bytes stops so.
abbrev pub StopsCall : List ℕ → List ℕ → Fault → Type 0
StopsCall ws bytes fault.Size = has_size ws ≡ false
StopsCall ws bytes fault.Options = (has_size ws ≡ true) × (are_wrong ws || have_ways ws ≡ true)
StopsCall ws bytes fault.TooLong = AreRight ws × TakesTooLong (visits_of ws) bytes
StopsCall ws bytes (fault.Run why) = AreRight ws × StopsOn (columns_of ws) (limit_of ws) bytes why

-- what a fault says
abbrev pub text_of_call : Fault → List ℕ
text_of_call fault.Size = codes "bad size"
text_of_call fault.Options = codes "bad options"
text_of_call fault.TooLong = codes "too many visits"
text_of_call (fault.Run why) = text_of why

-- the buffer shows what the fault says, and `len` is its length
abbrev pub Tells : Fault → List ℕ → List ℕ → ℕ → Type 0
Tells why before after len =
    (len ≡ length (text_of_call why)) × Shows (text_of_call why) before after

-- the status, as the program ends with it
abbrev pub status_of_call : Fault → ℕ
status_of_call fault.Size = 8
status_of_call fault.Options = 2
status_of_call fault.TooLong = 7
status_of_call (fault.Run why) = status_of why

-- A call that gives status 0 reports, and one that gives another was stopped by a fault of that
-- status.
abbrev pub Answers : List ℕ → List ℕ → List ℕ → List ℕ → ℕ → ℕ → Type 0
Answers ws bytes before after len status =
    ((status ≡ 0) × Reports ws bytes before after len)
    ⊎ ((why : Fault) × StopsCall ws bytes why × (status ≡ status_of_call why) × Tells why before after len)
