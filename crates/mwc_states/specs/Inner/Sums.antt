-- Sums of all subsets of some members, ascending under a rule.
use Rattle.std.specs.Prelude.{ℕ, ◌+◌, ◌≡◌, ◌<◌, ◌≤◌, min, Bool, List, [], length, slice_index, slice_index_or}
use Rattle.mwc_states.specs.Inner.Sets.{MOST, weigh}

-- row k of a list
abbrev pub row_at : List (List ℕ) → ℕ → List ℕ
row_at rows k = slice_index_or rows k []

-- a row is the same as weights under a rule, as far as 64 bits go, and no greater under the others
pub record IsSum (rule : ℕ) (row : List ℕ) (weights : ℕ → ℕ) : Type 0 where
  pub same : slice_index row rule ≡ min (weights rule) MOST
  pub below : (r : ℕ) → slice_index row r ≤ weights r

-- some row of the list is
unfoldable pub HasSum : ℕ → List (List ℕ) → (ℕ → ℕ) → Type 0
HasSum rule rows weights = (k : ℕ) × (k < length rows) × IsSum rule (row_at rows k) weights

-- the rows ascend under a rule
abbrev pub IsAscending : ℕ → List (List ℕ) → Type 0
IsAscending rule rows = (i j : ℕ) → i ≤ j → j < length rows → slice_index (row_at rows i) rule ≤ slice_index (row_at rows j) rule

-- sums with one more, which is no less than they are under the rule
pub record AddsSum (rule : ℕ) (row : List ℕ) (old new : List (List ℕ)) : Type 0 where
  pub ascending : IsAscending rule old → ((k : ℕ) → k < length old → slice_index (row_at old k) rule ≤ slice_index row rule) → IsAscending rule new
  pub last : ((k : ℕ) → k < length old → slice_index (row_at old k) rule ≤ slice_index row rule)
      → (k : ℕ) → k < length new → slice_index (row_at new k) rule ≤ slice_index row rule
  pub kept : (weights : ℕ → ℕ) → HasSum rule old weights → HasSum rule new weights
  pub added : (weights : ℕ → ℕ) → IsSum rule row weights → HasSum rule new weights

-- the first i sums without one more member, and the first j with it; the next ones are no less
pub record AddsMember (rule : ℕ) (member : List ℕ) (sums all : List (List ℕ)) (i j : ℕ) : Type 0 where
  pub i_in : i ≤ length sums
  pub j_in : j ≤ i
  pub ascending : IsAscending rule all
  pub last_without : (k l : ℕ) → k < length all → i ≤ l → l < length sums → slice_index (row_at all k) rule ≤ slice_index (row_at sums l) rule
  pub last_within : (k l : ℕ) → k < length all → j ≤ l → l < length sums
      → slice_index (row_at all k) rule ≤ min (slice_index (row_at sums l) rule + slice_index member rule) MOST
  pub without : (weights : ℕ → ℕ) (k : ℕ) → k < i → IsSum rule (row_at sums k) weights → HasSum rule all weights
  pub within : (weights : ℕ → ℕ) (k : ℕ) → k < j → IsSum rule (row_at sums k) weights → HasSum rule all (λ r. slice_index member r + weights r)

-- the sum of each set of some members
pub record AreListed (rule : ℕ) (members rows : List (List ℕ)) : Type 0 where
  pub ascending : IsAscending rule rows
  pub all : (set : List Bool) → HasSum rule rows (weigh members set)

-- rows that are lowered, from place k - 1 on, to the least of themselves and all later ones
pub record AreLowered (k : ℕ) (old new : List (List ℕ)) : Type 0 where
  pub long : length new ≡ length old
  pub least : (i j r : ℕ) → k ≤ i + 1 → i ≤ j → j < length new → slice_index (row_at new i) r ≤ slice_index (row_at new j) r
  pub below : (i r : ℕ) → slice_index (row_at new i) r ≤ slice_index (row_at old i) r
  pub same : (rule i : ℕ) → IsAscending rule old → slice_index (row_at new i) rule ≡ slice_index (row_at old i) rule

-- the rows ascend under the rule; and a set that has a number under it that all rows before one do
-- not have weighs at least as much as that one under each rule
pub record AreSums (rule : ℕ) (members rows : List (List ℕ)) : Type 0 where
  pub ascending : IsAscending rule rows
  pub least : (set : List Bool) (number at r : ℕ) → number ≤ MOST → number ≤ weigh members set rule → at < length rows
      → ((k : ℕ) → k < at → slice_index (row_at rows k) rule < number) → slice_index (row_at rows at) r ≤ weigh members set r
