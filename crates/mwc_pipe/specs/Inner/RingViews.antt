-- What contracts see of the ends of a ring: what only proofs and private functions need.
use Rattle.std.specs.Prelude.{ℕ, List, [], ◌∷◌}
use denote.RawPtr.{Ptr, block_ptr, null_ptr}
use Rattle.mwc_pipe.specs.RingName.{RingName}
use Rattle.rtrb.specs.declared.producer.Producer.{Producer}
use Rattle.rtrb.specs.declared.finished.Finished.{Finished}
use Rattle.rtrb.specs.declared.consumer.Consumer.{Consumer}

-- a place in memory as numbers
abbrev pub numbers_of : Ptr → List ℕ
numbers_of (block_ptr block place) = block ∷ place ∷ []
numbers_of null_ptr = []

-- the ring that an end of the base crate is of
module _ {T A P : Type 0} where
  abbrev pub ring_of_producer : Producer T A P → RingName
  ring_of_producer p = record { words = numbers_of p.end.words; slots = numbers_of p.end.slots; numbers = p.end.names }

  abbrev pub ring_of_consumer : Consumer T A P → RingName
  ring_of_consumer p = record { words = numbers_of p.end.words; slots = numbers_of p.end.slots; numbers = p.end.names }

  abbrev pub ring_of_finished : Finished T A P → RingName
  ring_of_finished p = record { words = numbers_of p.end.words; slots = numbers_of p.end.slots; numbers = p.end.names }
