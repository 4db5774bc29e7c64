-- What a reader gave, and the reads by which it did.
use Rattle.std.specs.Prelude.{◌≡◌, ◌<◌, ◌≤◌, ℕ, List, [], ◌++◌, length, take, Option, ◌⊎◌, Result, Ok, Err, ◌+◌}
use Rattle.council_game.specs.declared.limits.TheConstants.{FILE_BYTES}
use Rattle.council_game.specs.Game.{GameView}
use Rattle.council_game.specs.declared.fault.GameFault.{GameFault}
use Rattle.council_game.specs.declared.fault.GameFault.TheVariants.{Read, Memory}
use Rattle.council_file.specs.File.{game_of}
use Rattle.std.specs.Io.KnownBytes.{Consumes, IsAtEnd}
use Rattle.std.specs.declared.io.Error.{Error}

-- the reader gave these bytes: up to its end, or one more than a game file may have
pub record Gave (before after : Option (List ℕ)) (bytes : List ℕ) : Type 0 where
  pub given : Consumes before after bytes
  pub enough : IsAtEnd after ⊎ (FILE_BYTES < length bytes)
  pub most : length bytes ≤ FILE_BYTES + 1

-- The reads of a reader that has given some bytes so far, and what they come to: all bytes, or why
-- they stopped. `is_read` relates the reader and the buffer before a read to its result, and to
-- both after it.
pub data Reading {R : Type 0} (is_read : R → List ℕ → Result ℕ Error → R → List ℕ → Type 0)
    : R → List ℕ → Result (List ℕ) GameFault → R → Type 0 where
  -- a read gave some bytes, and others follow while a game file may have more
  gave : (r s last : R) (bytes buffer filled : List ℕ) (n : ℕ) (end : Result (List ℕ) GameFault)
      → length bytes ≤ FILE_BYTES → is_read r buffer (Ok n) s filled → 0 < n
      → Reading is_read s (bytes ++ take n filled) end last → Reading is_read r bytes end last
  -- a read gave none: the bytes are whole
  ended : (r s : R) (bytes buffer filled : List ℕ) → length bytes ≤ FILE_BYTES → is_read r buffer (Ok 0) s filled
      → 0 < length filled → Reading is_read r bytes (Ok bytes) s
  -- they are more than a game file may have
  too_long : (r : R) (bytes : List ℕ) → FILE_BYTES < length bytes → Reading is_read r bytes (Ok bytes) r
  -- there was no memory for the bytes of a read
  refused : (r s : R) (bytes buffer filled : List ℕ) (n : ℕ) → length bytes ≤ FILE_BYTES
      → is_read r buffer (Ok n) s filled → Reading is_read r bytes (Err Memory) s
  failed : (r s : R) (bytes buffer filled : List ℕ) (e : Error) → length bytes ≤ FILE_BYTES
      → is_read r buffer (Err e) s filled → Reading is_read r bytes (Err Read) s

-- The game of the bytes that the reader gave, or their first fault; or a read failed, or memory ran
-- out, for the bytes or then for the game. `left` has the bytes that a reader has left, if they are
-- known.
abbrev pub Reads : {R : Type 0} → (R → Option (List ℕ)) → (R → List ℕ → Result ℕ Error → R → List ℕ → Type 0) → R → R
    → Result GameView GameFault → Type 0
Reads left is_read first last (Err Memory) =
    Reading is_read first [] (Err Memory) last ⊎ ((bytes : List ℕ) × Reading is_read first [] (Ok bytes) last)
Reads left is_read first last (Err Read) = Reading is_read first [] (Err Read) last
Reads left is_read first last answer =
    (bytes : List ℕ) × Gave (left first) (left last) bytes × Reading is_read first [] (Ok bytes) last × (game_of bytes ≡ answer)
