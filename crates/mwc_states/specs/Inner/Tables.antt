-- Tables of states, and where the states of one level lead in the next.
use Rattle.std.specs.Prelude.{ℕ, ◌+◌, ◌*◌, ◌<◌, ◌≤◌, ◌≡◌, slice_index, Bool, List, [], ◌∷◌, length, map, take, drop, slice_index_or, if◌then◌else◌}
use Rattle.std.specs.List.{All}
use Rattle.mwc_states.specs.declared.state.What.{What}
use Rattle.mwc_states.specs.declared.state.What.TheVariants.{Minimal, ByWays, Winning}
use Rattle.mwc_states.specs.Inner.States.{completes}
use Rattle.mwc_states.specs.Inner.Links.{link_at}

-- the states of a table, each some rows from a place on
unfoldable pub states_of : List (List ℕ) → List (ℕ × ℕ) → List (List (List ℕ))
states_of rows parts = map (λ part. take part.1 (drop part.0 rows)) parts

-- the rows of each state are there
abbrev pub AreParts : List (List ℕ) → List (ℕ × ℕ) → Type 0
AreParts rows parts = All (λ part. part.0 + part.1 ≤ length rows) parts

-- each state of a table is at its place in another one
pub record AreFound (old new : List (List (List ℕ))) (places : List ℕ) : Type 0 where
  pub long : length places ≡ length old
  pub below : (k : ℕ) → slice_index places k < length new
  pub here : (k : ℕ) → k < length old → slice_index_or new (slice_index places k) [] ≡ slice_index_or old k []

-- what a state leaves once a member is decided
abbrev pub Leads : What → List (List ℕ) → List ℕ → Bool → List (List ℕ) → List (List ℕ) → Type 0
Leads what later member taken state left = (set : List Bool) → completes what (member ∷ later) state (taken ∷ set) ≡ completes what later left set

-- what the first i states of a table leave, without the member and with it
pub record AreDecided (what : What) (member : List ℕ) (later : List (List ℕ)) (table next : List (List (List ℕ))) (i : ℕ) : Type 0 where
  pub long : length next ≡ 2 * i
  pub each : (k : ℕ) (taken : Bool) → k < i
      → Leads what later member taken (slice_index_or table k []) (slice_index_or next (2 * k + (if taken then 1 else 0)) [])

-- where the states of a table lead in the table of the next level
pub record IsLevel (what : What) (member : List ℕ) (later : List (List ℕ)) (table : List (List (List ℕ)))
    (links : List ℕ) (next : List (List (List ℕ))) : Type 0 where
  pub long : length links ≡ 2 * length table
  pub below : (k : ℕ) → slice_index links k < length next
  pub each : (k : ℕ) (taken : Bool) → k < length table
      → Leads what later member taken (slice_index_or table k []) (slice_index_or next (link_at links k (if taken then 1 else 0)) [])

-- some needs, and no misses
abbrev pub state_of : What → List (List ℕ) → List (List ℕ)
state_of Minimal needs = needs
state_of ByWays needs = (length needs ∷ 0 ∷ 0 ∷ 0 ∷ []) ∷ needs
state_of Winning needs = needs

-- no set completes the first state, and only the empty set may complete the second one
pub record IsLast (what : What) (table : List (List (List ℕ))) : Type 0 where
  pub two : length table ≡ 2
  pub dead : slice_index_or table 0 [] ≡ []
  pub complete : slice_index_or table 1 [] ≡ state_of what ((0 ∷ 0 ∷ 0 ∷ 0 ∷ []) ∷ [])
