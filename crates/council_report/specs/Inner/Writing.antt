-- A text that is written through a block, line by line.
use Rattle.std.specs.Prelude.{◌≡◌, ◌≤◌, ◌<◌, ◌⊎◌, ◌+◌, ℕ, List, [], length, Result, Ok, Err}
use Rattle.council_report.specs.Inner.Written.{Calls, Progress, progress_of, Advances, Ends}
use Rattle.council_report.specs.Inner.Ready.{IsReady}
use Rattle.council_report.specs.declared.fault.ReportFault.{ReportFault}
use Rattle.council_report.specs.declared.fault.ReportFault.TheVariants.{Memory, Write}
use Rattle.council_report.specs.declared.output.Block.{Block}

-- the writer took n of these bytes: all, or those before a write took none or failed
pub record Takes {W : Type 0} (S : Calls W) (bytes : List ℕ) (first last : W) (n : ℕ) : Type 0 where
  pub within : n ≤ length bytes
  pub all : n ≡ length bytes → (rest : List ℕ) (count : ℕ) (end : Result ℕ ℕ) (w : W)
      → S last [] rest (count + n) end w → S first bytes rest count end w
  pub part : n < length bytes → (rest : List ℕ) (count : ℕ) → S first bytes rest count (Err (count + n)) last

-- A block may go out if it is large, or nothing follows it.
abbrev pub IsBlock : List ℕ → List ℕ → Type 0
IsBlock block rest = (61440 < length block) ⊎ (rest ≡ [])

-- the bytes of a block went out, as far as the writer took them, with what may follow
abbrev pub Drains : {W : Type 0} → Calls W → Progress W → Progress W → Type 0
Drains {W} S before after = (rest : List ℕ) (end : Result ℕ ℕ) (last : W) → IsBlock before.bytes rest
    → Ends S after rest end last → Ends S before rest end last

-- a text was told, and the block is ready for a line
pub record KeepsReady {W : Type 0} (S : Calls W) (before : Progress W) (held : W) (block : Block) (text : List ℕ) : Type 0 where
  pub tells : Advances S before (progress_of held block) text
  pub ready : IsReady block

-- how a report ended: with so many bytes written, or stopped after so many
abbrev pub Finishes : {W : Type 0} → Calls W → Progress W → W → Result ℕ ReportFault → Type 0
Finishes S at last (Ok count) = Ends S at [] (Ok count) last
Finishes S at last (Err Memory) = ⊥
Finishes S at last (Err (Write written)) = Ends S at [] (Err written) last
