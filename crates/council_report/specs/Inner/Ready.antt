-- A block that is ready for a line.
use Rattle.std.specs.Prelude.{◌≡◌, ◌≤◌, ◌<◌, ◌+◌, ◌++◌, ◌^◌, ℕ, List, false, length}
use Rattle.std.specs.Vec.{vec_capacity}
use Rattle.council_report.specs.declared.output.Block.{Block}
use Rattle.council_report.specs.declared.output.TheConstants.{LINE, ROOM}

-- it has its room
abbrev pub HasRoom : Block → Type 0
HasRoom block = ROOM ≤ vec_capacity block.bytes

-- and what the next line needs is free
pub record IsReady (block : Block) : Type 0 where
  pub room : HasRoom block
  pub free : length block.bytes.items + LINE ≤ ROOM
  pub kept : block.refused ≡ false

-- with this text after those counted before, the number of bytes still fits 64 bits
abbrev pub CanCount : Block → List ℕ → Type 0
CanCount block text = block.written + length block.bytes.items + length text < 2 ^ 64

-- a text was put at its end, unless memory was refused
pub record AppendsText (old new : Block) (text : List ℕ) : Type 0 where
  pub kept : new.refused ≡ false → old.refused ≡ false
  pub items : new.refused ≡ false → new.bytes.items ≡ old.bytes.items ++ text
  pub capacity : vec_capacity old.bytes ≤ vec_capacity new.bytes
  pub written : new.written ≡ old.written
  pub stopped : new.stopped ≡ old.stopped

-- and it was not refused if the text fits the room
pub record AppendsInRoom (old new : Block) (text : List ℕ) : Type 0 where
  pub adds : AppendsText old new text
  pub fits : old.refused ≡ false → length old.bytes.items + length text ≤ vec_capacity old.bytes
      → new.refused ≡ false
