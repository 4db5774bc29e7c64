-- What contracts see of a batch.
use Rattle.std.specs.Prelude.{ℕ, Bool, false, List}
use Rattle.mwc_pipe.specs.declared.word.Word.{Word}
use Rattle.mwc_pipe.specs.PipeView.{PipeView}

-- the capacity, the accepted words, oldest first, and whether it is broken
pub record BatchView : Type 0 where
  pub capacity : ℕ
  pub accepted : List Word
  pub broken : Bool

-- the batch as a pipe that was not closed
abbrev pub still_open : BatchView → PipeView Word
still_open batch = record { capacity = batch.capacity; inside = batch.accepted; closed = false }
