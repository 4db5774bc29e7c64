-- The graph: for each level, where its states lead without its member and with it.
use Rattle.std.specs.Prelude.{ℕ, nat_eq, ◌+◌, ◌*◌, ◌/◌, ◌<◌, ◌≤◌, ◌^◌, ◌≡◌, ◌&&◌, Bool, false, List, [], ◌∷◌, length, slice_index, slice_index_or}
use Rattle.std.specs.Prelude.{if◌then◌else◌, map, Vec}
use Rattle.std.specs.Global.{Global}
use Rattle.council_game.specs.declared.limits.TheConstants.{MEMBERS, SIZES}
use Rattle.mwc_states.specs.Inner.Sets.{count_sets}

-- the links of each level
abbrev pub lists : List (Vec ℕ Global) → List (List ℕ)
lists levels = map (λ links. links.items) levels

-- where row p leads without the member (0) or with it (1)
abbrev pub link_at : List ℕ → ℕ → ℕ → ℕ
link_at links p choice = slice_index links (2 * p + choice)

-- A level has a row for each of its states. A link is the row of the next level that it leads to;
-- after the last level there are two rows. The graph accepts a set from a row if the links that it
-- chooses lead to row 1 in the end.
unfoldable pub accepts : List (List ℕ) → ℕ → List Bool → Bool
accepts [] k set = nat_eq k 1
accepts (links ∷ levels) k [] = false
accepts (links ∷ levels) k (taken ∷ set) = accepts levels (link_at links k (if taken then 1 else 0)) set

-- how many rows level i has
abbrev pub rows_at : List (List ℕ) → ℕ → ℕ
rows_at levels i = length (slice_index_or levels i (0 ∷ 0 ∷ 0 ∷ 0 ∷ [])) / 2

-- a graph of 1 to 40 levels, whose links lead to rows of the next level
pub record IsGraph (levels : List (List ℕ)) : Type 0 where
  pub some : 1 ≤ length levels
  pub few : length levels ≤ MEMBERS
  pub root : 1 ≤ rows_at levels 0
  pub few_rows : (i : ℕ) → rows_at levels i ≤ 2 ^ 27
  pub linked : (i k : ℕ) → i < length levels → slice_index (slice_index_or levels i []) k < rows_at levels (i + 1)

-- how many of the sets that the graph accepts pass a test, by size
pub record AreSizesOf (levels : List (List ℕ)) (test : List Bool → Bool) (sizes : List ℕ) : Type 0 where
  pub long : length sizes ≡ SIZES
  pub each : (s : ℕ) → s ≤ MEMBERS
      → slice_index sizes s ≡ count_sets (length levels) (λ set. test set && accepts levels 0 set) s
