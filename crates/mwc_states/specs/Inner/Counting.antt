-- Choices of the first members of a graph, and sets that complete them, by size.
use Rattle.std.specs.Prelude.{ℕ, zero, suc, ◌+◌, ◌-◌, ◌*◌, ◌<◌, ◌≤◌, ◌≡◌, ◌==◌, ltb, nat_le, if◌then◌else◌, All, List, [], length, drop, slice_index, slice_index_or, sum_by}
use Rattle.mwc_states.specs.declared.choices.Choices.{Choices}
use Rattle.mwc_states.specs.Inner.Sets.{count_sets}
use Rattle.mwc_states.specs.Inner.Links.{accepts, link_at, rows_at}

-- numbers by size, each for a size that is greater by `more`
abbrev pub later : ℕ → (ℕ → ℕ) → ℕ → ℕ
later more f s = if nat_le more s then f (s - more) else 0

-- what choices are worth, by the values of their rows and sizes
abbrev pub worth : List Choices → (ℕ → ℕ → ℕ) → ℕ
worth choices value = sum_by (λ some. some.count * value some.row some.size) choices

-- choices of up to a size lead to one of the first rows
pub record IsWithin (rows most : ℕ) (some : Choices) : Type 0 where
  pub row : some.row < rows
  pub size : some.size ≤ most

-- the values of the rows that a choice of a size in a row leads to, added
abbrev pub step : List ℕ → (ℕ → ℕ → ℕ) → ℕ → ℕ → ℕ
step links value p a = value (link_at links p 0) a + value (link_at links p 1) (a + 1)

-- the values of the rows of level i that the choices of the first i members lead to, added
unfoldable pub over_choices : List (List ℕ) → ℕ → (ℕ → ℕ → ℕ) → ℕ
over_choices levels zero value = value 0 0
over_choices levels (suc i) value = over_choices levels i (step (slice_index_or levels i []) value)

-- the choices of the first i members
pub record AreLeading (levels : List (List ℕ)) (i : ℕ) (choices : List Choices) : Type 0 where
  pub within : All (IsWithin (rows_at levels i) i) choices
  pub sums : (value : ℕ → ℕ → ℕ) → worth choices value ≡ over_choices levels i value

-- the count of row k for size s, from lists of all rows for each size
abbrev pub count_at : List (List ℕ) → ℕ → ℕ → ℕ
count_at sizes k s = slice_index (slice_index_or sizes s []) k

-- how many sets of the members from i on complete each row of level i, by size
pub record AreCompleting (levels : List (List ℕ)) (i : ℕ) (sizes : List (List ℕ)) : Type 0 where
  pub each : (k s : ℕ) → k < rows_at levels i → count_at sizes k s ≡ count_sets (length levels - i) (accepts (drop i levels) k) s

-- how many sets of size s have the member of a level, for a choice of size a that leads to row p
abbrev pub with_member : List ℕ → List (List ℕ) → ℕ → ℕ → ℕ → ℕ
with_member links completing s p a = later (a + 1) (count_at completing (link_at links p 1)) s

-- of these, those that have just k later members; `counts` says for each row how many sets of k
-- members complete it
abbrev pub with_later : List ℕ → List ℕ → ℕ → ℕ → ℕ → ℕ → ℕ
with_later links counts k s p a = if a + 1 + k == s then slice_index counts (link_at links p 1) else 0

-- and those that have fewer than k later members
abbrev pub with_fewer : List ℕ → List (List ℕ) → ℕ → ℕ → ℕ → ℕ → ℕ
with_fewer links completing k s p a = if ltb s (a + 1 + k) then with_member links completing s p a else 0
