-- Members of a game under other numbers: renamed, exchanged, of the same weights.
use Rattle.std.specs.Prelude.{ℕ, ◌^◌, ◌≡◌, ◌≢◌, ◌<◌, ◌==◌, Bool, true, false, if◌then◌else◌, All, length, slice_index}
use Rattle.std.specs.List.{AllZip, filter}
use Rattle.council_game.specs.Game.{GameView, votes_of}
use Rattle.council_game.specs.Members.{contains, size_of}
use Rattle.council_game.specs.Votes.{RuleView, wins, minimal, minimal_coalitions}

-- `to` takes the numbers below n to one another, and `from` takes them back
pub record AreInverse (n : ℕ) (to from : ℕ → ℕ) : Type 0 where
  pub to_below : (i : ℕ) → i < n → to i < n
  pub from_below : (i : ℕ) → i < n → from i < n
  pub back : (i : ℕ) → i < n → from (to i) ≡ i
  pub forth : (i : ℕ) → i < n → to (from i) ≡ i

-- coalition d of game h has the members of coalition c of game g, renamed
abbrev pub HaveRenamedMembers : (ℕ → ℕ) → GameView → GameView → ℕ → ℕ → Type 0
HaveRenamedMembers to g h c d = (i : ℕ) → i < length g.names → contains g i c ≡ contains h (to i) d

-- the members of g, renamed, are those of h: coalitions of the same members win alike
pub record IsRenaming (to from : ℕ → ℕ) (g h : GameView) : Type 0 where
  pub count : length h.names ≡ length g.names
  pub inverse : AreInverse (length g.names) to from
  pub win : (c d : ℕ) → HaveRenamedMembers to g h c d → wins (votes_of g) c ≡ wins (votes_of h) d

-- coalitions of the renamed members are as large, win alike, and are minimal alike; so as many
-- minimal winning coalitions pass a test that looks at their members only
pub record AreAlike (to : ℕ → ℕ) (g h : GameView) : Type 0 where
  pub size : (c d : ℕ) → HaveRenamedMembers to g h c d → size_of g c ≡ size_of h d
  pub win : (c d : ℕ) → HaveRenamedMembers to g h c d → wins (votes_of g) c ≡ wins (votes_of h) d
  pub minimal : (c d : ℕ) → HaveRenamedMembers to g h c d → minimal (votes_of g) c ≡ minimal (votes_of h) d
  pub counts : (p q : ℕ → Bool)
      → ((c d : ℕ) → c < 2 ^ length g.names → d < 2 ^ length g.names → HaveRenamedMembers to g h c d → p c ≡ q d)
      → length (filter p (minimal_coalitions (votes_of g))) ≡ length (filter q (minimal_coalitions (votes_of h)))

-- the second rule has the quota of the first, and gives each of n members, renamed, the same weight
pub record IsRenamedRule (n : ℕ) (to : ℕ → ℕ) (r t : RuleView) : Type 0 where
  pub quota : t.quota ≡ r.quota
  pub weights : (i : ℕ) → i < n → slice_index t.weights (to i) ≡ slice_index r.weights i

-- so for each rule of two games
abbrev pub HaveRenamedRules : (ℕ → ℕ) → GameView → GameView → Type 0
HaveRenamedRules to g h = AllZip (IsRenamedRule (length g.names) to) g.rules h.rules

-- i for j, j for i, and each other number for itself
abbrev pub exchanged : ℕ → ℕ → ℕ → ℕ
exchanged i j k = if k == i then j else if k == j then i else k

-- i and j are symmetric: coalitions that differ only in that one has i and the other j win alike
abbrev pub AreSymmetric : GameView → ℕ → ℕ → Type 0
AreSymmetric g i j =
    (c d : ℕ) → contains g i c ≡ true → contains g j c ≡ false → contains g i d ≡ false → contains g j d ≡ true
    → ((k : ℕ) → k < length g.names → k ≢ i → k ≢ j → contains g k c ≡ contains g k d)
    → wins (votes_of g) c ≡ wins (votes_of g) d

-- i and j have the same weight under each rule
abbrev pub HaveEqualWeights : GameView → ℕ → ℕ → Type 0
HaveEqualWeights g i j = All (λ r. slice_index r.weights i ≡ slice_index r.weights j) g.rules
