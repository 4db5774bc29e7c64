-- The graph of some members and a state, while it is built and once it is whole.
use Rattle.std.specs.Prelude.{ℕ, ◌+◌, ◌^◌, ◌<◌, ◌≤◌, ◌≡◌, Bool, List, [], ◌++◌, length, drop, slice_index, slice_index_or}
use Rattle.mwc_states.specs.declared.state.What.{What}
use Rattle.mwc_states.specs.Inner.States.{completes}
use Rattle.mwc_states.specs.Inner.Links.{IsGraph, accepts, rows_at}

-- a graph that accepts the sets of members that complete the state
pub record IsGraphOf (what : What) (members : List (List ℕ)) (state : List (List ℕ)) (levels : List (List ℕ)) : Type 0 where
  pub graph : IsGraph levels
  pub long : length levels ≡ length members
  pub accepts_all : (set : List Bool) → length set ≡ length members
      → accepts levels 0 set ≡ completes what members state set

-- further levels go on from a table: from each row they accept the sets of members that complete it
pub record Continue (what : What) (members : List (List ℕ)) (table : List (List (List ℕ))) (rest : List (List ℕ)) : Type 0 where
  pub long : length rest ≡ length members
  pub rows : rows_at rest 0 ≡ length table
  pub few : (i : ℕ) → rows_at rest i ≤ 2 ^ 27
  pub linked : (i k : ℕ) → i < length rest → slice_index (slice_index_or rest i []) k < rows_at rest (i + 1)
  pub accept : (k : ℕ) (set : List Bool) → k < length table → length set ≡ length members
      → accepts rest k set ≡ completes what members (slice_index_or table k []) set

-- the first i levels of a graph that is being built, and the table of the states that they lead to;
-- `room` more states may come
pub record IsBuilding (what : What) (members : List (List ℕ)) (state : List (List ℕ)) (levels : List (List ℕ)) (table : List (List (List ℕ))) (i room : ℕ) : Type 0 where
  pub room_few : room ≤ 2 ^ 27
  pub onward : (rest : List (List ℕ)) → Continue what (drop i members) table rest → IsGraphOf what members state (levels ++ rest)
