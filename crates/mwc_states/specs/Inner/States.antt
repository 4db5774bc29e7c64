-- States: what some decided members leave for the later ones. A state is its needs, one of which
-- they must meet, and the rows that they must miss.
use Rattle.std.specs.Prelude.{ℕ, Bool, false, not, ◌&&◌, List, [], ◌∷◌, drop, slice_index, take}
use Rattle.std.specs.List.{list_all}
use Rattle.mwc_states.specs.declared.state.What.{What}
use Rattle.mwc_states.specs.declared.state.What.TheVariants.{Minimal, ByWays, Winning}
use Rattle.mwc_states.specs.Inner.Sets.{weigh, meets, without_one}

-- a set misses a need if any one of its members leaves
abbrev pub needs_each : List (List ℕ) → List Bool → List ℕ → Bool
needs_each members set need = list_all (λ less. not (meets (weigh members less) need)) (without_one set)

-- a set meets a need, and not without any one of its members
abbrev pub fits : List (List ℕ) → List ℕ → List Bool → Bool
fits members need set = meets (weigh members set) need && needs_each members set need

-- weights miss each of some rows
abbrev pub misses_all : (ℕ → ℕ) → List (List ℕ) → Bool
misses_all weights rows = list_all (λ row. not (meets weights row)) rows

-- a set meets one of some needs, and none of them without any one of its members
abbrev pub fits_any : List (List ℕ) → List (List ℕ) → List Bool → Bool
fits_any members needs set =
    not (misses_all (weigh members set) needs) && list_all (λ less. misses_all (weigh members less) needs) (without_one set)

-- A set of the later members completes a state: to a minimal winning coalition of a game of one way
-- or of several, or to a winning one. For several ways the first row says how many needs there are.
unfoldable pub completes : What → List (List ℕ) → List (List ℕ) → List Bool → Bool
completes what members [] set = false
completes Minimal members (need ∷ misses) set = fits members need set && misses_all (weigh members set) misses
completes ByWays members (head ∷ rows) set =
    fits_any members (take (slice_index head 0) rows) set && misses_all (weigh members set) (drop (slice_index head 0) rows)
completes Winning members (need ∷ needs) set = not (misses_all (weigh members set) (need ∷ needs))
