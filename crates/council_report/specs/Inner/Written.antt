-- What a writer was told: the bytes that it has, and those of the block that are still to go.
use Rattle.std.specs.Prelude.{◌≡◌, ◌≤◌, ◌+◌, ◌++◌, ℕ, Bool, true, false, List, [], length, Result, Err}
use Rattle.council_report.specs.declared.output.Block.{Block}

-- which calls a writer gets with the rest of a block and of a text, after so many bytes; see
-- `Sending`
abbrev pub Calls : Type 0 → Type 1
Calls W = W → List ℕ → List ℕ → ℕ → Result ℕ ℕ → W → Type 0

-- the writer, the bytes of the block, the number of bytes that the writer has taken, and whether it
-- gets no further call
pub record Progress (W : Type 0) : Type 0 where
  pub writer : W
  pub bytes : List ℕ
  pub written : ℕ
  pub stopped : Bool

abbrev pub progress_of : {W : Type 0} → W → Block → Progress W
progress_of writer block = record {
  writer = writer;
  bytes = block.bytes.items;
  written = block.written;
  stopped = block.stopped;
}

abbrev pub count_of : {W : Type 0} → Progress W → ℕ
count_of at = at.written + length at.bytes

-- with this text it ends so; for a writer that gets no further call it has ended
abbrev pub EndsAfter : {W : Type 0} → Calls W → Bool → W → List ℕ → ℕ → Result ℕ ℕ → W → Type 0
EndsAfter S true writer text written end last = (end ≡ Err written) × (last ≡ writer)
EndsAfter S false writer text written end last = S writer [] text written end last

-- with this text after the block, it ends so
abbrev pub Ends : {W : Type 0} → Calls W → Progress W → List ℕ → Result ℕ ℕ → W → Type 0
Ends S at text end last = EndsAfter S at.stopped at.writer (at.bytes ++ text) at.written end last

-- a text was told: whatever follows, it ends as if that followed the text
pub record Advances {W : Type 0} (S : Calls W) (before after : Progress W) (text : List ℕ) : Type 0 where
  pub ends : (rest : List ℕ) (end : Result ℕ ℕ) (last : W) → Ends S after rest end last → Ends S before (text ++ rest) end last
  pub count : count_of after ≤ count_of before + length text
