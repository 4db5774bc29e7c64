-- The calls by which a writer gets a text.
use Rattle.std.specs.Prelude.{◌≡◌, ◌<◌, ◌+◌, ◌⊎◌, ℕ, List, [], ◌++◌, length, drop, Result, Ok, Err}
use Rattle.std.specs.declared.io.Error.{Error}

-- The calls to a writer that still gets the rest of a block, and then the rest of a text; it has
-- taken `count` bytes before. In the end it has taken all and was flushed once, or a call failed:
-- then `Err` says how many bytes it has taken. `is_write` and `is_flush` relate the writer before a
-- call to the result of the call, and to the writer after it.
pub data Sending {W : Type 0} (is_write : W → List ℕ → Result ℕ Error → W → Type 0) (is_flush : W → Result (Unit {0}) Error → W → Type 0)
    : W → List ℕ → List ℕ → ℕ → Result ℕ ℕ → W → Type 0 where
  -- when a block was taken, the next begins: it has more than 61,440 bytes, or nothing follows it
  begins : (w last : W) (block rest : List ℕ) (count : ℕ) (end : Result ℕ ℕ) → (61440 < length block) ⊎ (rest ≡ [])
      → Sending is_write is_flush w block rest count end last → Sending is_write is_flush w [] (block ++ rest) count end last
  -- a write gets what is left of the block, and takes some of it
  takes : (w v last : W) (block rest : List ℕ) (count n : ℕ) (end : Result ℕ ℕ) → is_write w block (Ok n) v → 0 < n
      → Sending is_write is_flush v (drop n block) rest (count + n) end last → Sending is_write is_flush w block rest count end last
  -- a write takes nothing, or fails: it is the last call
  takes_none : (w last : W) (block rest : List ℕ) (count : ℕ) → 0 < length block → is_write w block (Ok 0) last
      → Sending is_write is_flush w block rest count (Err count) last
  fails : (w last : W) (block rest : List ℕ) (count : ℕ) (e : Error) → 0 < length block → is_write w block (Err e) last
      → Sending is_write is_flush w block rest count (Err count) last
  -- all was taken: there is one flush
  flushed : (w last : W) (count : ℕ) → is_flush w (Ok tt) last → Sending is_write is_flush w [] [] count (Ok count) last
  flush_fails : (w last : W) (count : ℕ) (e : Error) → is_flush w (Err e) last → Sending is_write is_flush w [] [] count (Err count) last
