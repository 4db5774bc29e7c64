-- What the laws say of every game.
use Rattle.std.specs.Prelude.{ℕ, ◌^◌, ◌≡◌, ◌≢◌, ◌<◌, ◌≤◌, ◌↔◌, Bool, true, false, List, length, map, slice_index}
use Rattle.std.specs.List.{All, AllPairs, filter, sum}
use Rattle.council_game.specs.Game.{GameView, votes_of}
use Rattle.council_game.specs.Members.{contains, size_of, HaveSameMembers, IsSubsetOf}
use Rattle.council_game.specs.Votes.{Votes, has, without, weight, places_of, wins, minimal, minimal_coalitions}

-- a coalition weighs what its members weigh together
abbrev pub WeighsItsMembers : Type 0
WeighsItsMembers =
    (ws : List ℕ) (c : ℕ)
    → weight ws c ≡ sum (map (λ p. slice_index ws p) (places_of (length ws) c))

-- a coalition is minimal exactly if it wins, and loses without any one of its members
abbrev pub NeedsEachMember : Votes → Type 0
NeedsEachMember v =
    (c : ℕ) → (minimal v c ≡ true) ↔ ((wins v c ≡ true)
    × ((p : ℕ) → p < v.members → has v.members p c ≡ true
    → wins v (without v.members p c) ≡ false))

-- in a game of n members, each place of a is in c, and c is not a
abbrev pub IsProperSubset : ℕ → ℕ → ℕ → Type 0
IsProperSubset n a c = ((p : ℕ) → p < n → has n p a ≡ true → has n p c ≡ true) × (a ≢ c)

-- no proper subset of a minimal coalition wins
abbrev pub ProperSubsetsLose : Votes → Type 0
ProperSubsetsLose v =
    (a c : ℕ) → a < 2 ^ v.members → c < 2 ^ v.members
    → minimal v c ≡ true → IsProperSubset v.members a c → wins v a ≡ false

-- the same of a game, member by member
abbrev pub NeedsEachMemberOf : GameView → Type 0
NeedsEachMemberOf g =
    (c : ℕ) → (minimal (votes_of g) c ≡ true) ↔ ((wins (votes_of g) c ≡ true)
    × ((i : ℕ) → i < length g.names → contains g i c ≡ true
    → wins (votes_of g) (without (length g.names) (slice_index g.ranks i) c) ≡ false))

abbrev pub ProperSubsetsOfLose : GameView → Type 0
ProperSubsetsOfLose g =
    (a c : ℕ) → a < 2 ^ length g.names → c < 2 ^ length g.names → minimal (votes_of g) c ≡ true
    → IsSubsetOf g a c → a ≢ c → wins (votes_of g) a ≡ false

-- the list of minimal coalitions is not empty, no longer than the game has coalitions, strictly
-- descending, and has only coalitions of the game, none of them empty
pub record IsListing (v : Votes) : Type 0 where
  pub some : 0 < length (minimal_coalitions v)
  pub few : length (minimal_coalitions v) ≤ 2 ^ v.members
  pub descending : AllPairs (λ a b. b < a) (minimal_coalitions v)
  pub none_empty : All (λ c. c ≢ 0) (minimal_coalitions v)
  pub below : All (λ c. c < 2 ^ v.members) (minimal_coalitions v)

-- for each set of members there is one coalition, which has exactly these members
pub record HasEachSet (g : GameView) : Type 0 where
  pub coalition : (ℕ → Bool) → ℕ
  pub below : (set : ℕ → Bool) → coalition set < 2 ^ length g.names
  pub members : (set : ℕ → Bool) (i : ℕ) → i < length g.names → contains g i (coalition set) ≡ set i
  pub one : (c d : ℕ) → c < 2 ^ length g.names → d < 2 ^ length g.names → HaveSameMembers g g c d → c ≡ d

-- In two games of the same members and rules, coalitions of the same members are as large, win
-- alike, and are minimal alike; so as many minimal winning coalitions pass a test that looks at
-- their members only.
pub record IsSameByMembers (g h : GameView) : Type 0 where
  pub size : (c d : ℕ) → HaveSameMembers g h c d → size_of g c ≡ size_of h d
  pub win : (c d : ℕ) → HaveSameMembers g h c d → wins (votes_of g) c ≡ wins (votes_of h) d
  pub minimal : (c d : ℕ) → HaveSameMembers g h c d → minimal (votes_of g) c ≡ minimal (votes_of h) d
  pub counts : (p q : ℕ → Bool)
      → ((c d : ℕ) → c < 2 ^ length g.names → d < 2 ^ length g.names → HaveSameMembers g h c d → p c ≡ q d)
      → length (filter p (minimal_coalitions (votes_of g))) ≡ length (filter q (minimal_coalitions (votes_of h)))
