-- What contracts see of the ends of a ring.
use Rattle.std.specs.Prelude.{ℕ, List}
use Rattle.mwc_pipe.specs.RingName.{RingName}
use Rattle.mwc_pipe.specs.declared.word.Word.{Word}

-- the end that words are put into: its ring, the capacity, what it accepted, and how many of these
-- words it knows to have been taken
pub record RingInView : Type 0 where
  pub ring : RingName
  pub capacity : ℕ
  pub accepted : List Word
  pub gone : ℕ

-- the end that words are taken from: its ring, what was taken, and the words that it knows to be
-- inside
pub record RingOutView : Type 0 where
  pub ring : RingName
  pub taken : List Word
  pub known : List Word

-- a closed end: its ring, and what was accepted
pub record ClosedView : Type 0 where
  pub ring : RingName
  pub accepted : List Word
