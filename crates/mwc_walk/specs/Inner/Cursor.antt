-- How far a walk has come, and what is left to it.
use Rattle.std.specs.Prelude.{ℕ, ◌+◌, ◌-◌, ◌*◌, ◌/◌, ◌%◌, ◌^◌, ◌≡◌, ◌≤◌, ◌<◌, Bool, true, false, if◌then◌else◌, ltb, List, [], ◌∷◌, length, slice_index_or}
use Rattle.council_game.specs.Votes.{Votes, IsVotes}
use Rattle.mwc_walk.specs.declared.cursor.Cursor.{Cursor}
use Rattle.mwc_walk.specs.declared.seek.Seek.{Seek}
use Rattle.mwc_walk.specs.declared.seek.Seek.TheVariants.{NotYet, Found, End}
use Rattle.mwc_walk.specs.Slices.{slice}
use Rattle.mwc_walk.specs.Inner.Places.{slice_below, reaches, wins_at, IsWay, LanesAre}

-- the numbers below this one are still to be looked at
abbrev pub bound : Votes → Cursor → ℕ
bound v c = (if c.fresh then c.prefix + 1 else c.prefix) * 2 ^ (v.members - c.place)

-- the coalitions of the slice that are still to come
abbrev pub rest_of_slice : Votes → Cursor → List ℕ
rest_of_slice v c = slice_below v c.bits c.number (bound v c)

-- a number that falls with each step
abbrev pub steps_left : Votes → Cursor → ℕ
steps_left v c = 128 * bound v c + (if c.fresh then v.members - c.place else 64 + c.place)

-- the visits that a fresh prefix came by: one if its last member was taken in, those of the
-- fixed places at their end
abbrev pub new_visit : Cursor → ℕ
new_visit c = if c.fresh then (if ltb c.bits c.place then c.prefix % 2 else c.bits) else 0

-- the visits on the way down to a fresh prefix that can still meet each quota: a coalition is still
-- to be given for them
abbrev pub open_visits : Votes → Cursor → ℕ
open_visits v c = if c.fresh then (if reaches v c.place c.prefix then c.place - c.bits else 0) else 0

-- x is the number of the first p places, at a slice, and what was passed on the way to them did not
-- win yet
pub record IsPlace (v : Votes) (bits number p x : ℕ) : Type 0 where
  pub from : bits ≤ p
  pub to : p ≤ v.members
  pub number_in : number < 2 ^ bits
  pub inside : x / 2 ^ (p - bits) ≡ 2 ^ bits - 1 - number
  pub short : x < 2 ^ p
  pub passed : bits < p → wins_at v (p - 1) (x / 2) ≡ false

-- the bounds on the visits to a slice, of which some are new and some still await their coalition,
-- with these coalitions to come
pub record CountsVisits (v : Votes) (bits number visits new unmet : ℕ) (rest : List ℕ)
    : Type 0 where
  pub least : length (slice v bits number) + new ≤ visits + length rest
  pub most : length v.rules ≡ 1 →
      visits + (v.members - bits) * length rest ≤
      bits + (v.members - bits) * length (slice v bits number) + unmet

-- the visits of a walk over n members after b fixed places: at most n for each number of n digits
-- that is looked at no more, and one for each place on the way down to a fresh prefix x of p
-- places, below which there are k numbers
unfoldable pub FitVisits : (n b visits : ℕ) → Bool → (x k p : ℕ) → Type 0
FitVisits n b visits true x k p = visits + n * ((x + 1) * k) ≤ b + n * 2 ^ n + p
FitVisits n b visits false x k p = visits + n * (x * k) ≤ b + n * 2 ^ n

-- what a cursor keeps
pub record CursorIs (v : Votes) (c : Cursor) : Type 0 where
  pub game : IsVotes v
  pub members : c.members ≡ v.members
  pub rules : c.rules ≡ length v.rules
  pub ways : c.ways ≡ length v.ways
  pub sets : (k : ℕ) → k < length v.ways → IsWay v k (slice_index_or c.sets k [])
  pub room : c.rules ≤ length c.lanes
  pub lanes : LanesAre v c.place c.prefix c.lanes
  pub place : IsPlace v c.bits c.number c.place c.prefix
  pub visits :
      CountsVisits v c.bits c.number c.visits (new_visit c) (open_visits v c) (rest_of_slice v c)
  pub fit : FitVisits v.members c.bits c.visits c.fresh c.prefix (2 ^ (v.members - c.place)) c.place

-- b is the cursor a further on: at the same slice, with no fewer visits
pub record Follows (v : Votes) (a b : Cursor) : Type 0 where
  pub is : CursorIs v b
  pub bits : b.bits ≡ a.bits
  pub number : b.number ≡ a.number
  pub counted : a.visits ≤ b.visits

-- on, with the same left
pub record GoesOn (v : Votes) (a b : Cursor) : Type 0 where
  pub follows : Follows v a b
  pub same : rest_of_slice v b ≡ rest_of_slice v a
  pub falls : steps_left v b < steps_left v a

-- coalition m is given, the first of those left
pub record GivesNext (v : Votes) (a : Cursor) (m : ℕ) (b : Cursor) : Type 0 where
  pub follows : Follows v a b
  pub first : rest_of_slice v a ≡ m ∷ rest_of_slice v b
  pub stale : b.fresh ≡ false

-- nothing is left
pub record FindsEnd (v : Votes) (a b : Cursor) : Type 0 where
  pub follows : Follows v a b
  pub none : rest_of_slice v a ≡ []
  pub none_after : rest_of_slice v b ≡ []
  pub stale : b.fresh ≡ false

-- one step
abbrev pub Steps : Votes → Cursor → Seek → Cursor → Type 0
Steps v a NotYet b = GoesOn v a b
Steps v a (Found m) b = GivesNext v a m b
Steps v a End b = FindsEnd v a b

-- some steps, which may come to no coalition
abbrev pub SomeSteps : Votes → Cursor → Seek → Cursor → Type 0
SomeSteps v a NotYet b = Follows v a b × (rest_of_slice v b ≡ rest_of_slice v a)
SomeSteps v a (Found m) b = GivesNext v a m b
SomeSteps v a End b = FindsEnd v a b

-- when a walk starts: the whole slice is left, and only the fixed places are visited
pub record Starts (v : Votes) (k j : ℕ) (c : Cursor) : Type 0 where
  pub is : CursorIs v c
  pub bits : c.bits ≡ k
  pub number : c.number ≡ j
  pub place : c.place ≡ k
  pub visits : c.visits ≡ k
  pub all : rest_of_slice v c ≡ slice v k j
