-- What the laws say of winning coalitions.
use Rattle.std.specs.Prelude.{ℕ, ◌^◌, ◌≡◌, ◌<◌, Bool, false, true, ◌&&◌, not, All, Contains, List, length, map}
use Rattle.std.specs.List.{list_all, list_any}
use Rattle.council_game.specs.Votes.{Votes, has, wins, minimal_coalitions, rule_at}
use Rattle.council_game.specs.Ways.{covers, has_rule, one_way}
use Rattle.council_game.specs.Game.{GameView, has_low_quota, votes_of}
use Rattle.council_game.specs.Members.{contains, IsSubsetOf}
use Rattle.game_calls.specs.declared.forecast.Forecast.{Forecast}
use Rattle.game_calls.specs.declared.forecast.Forecast.TheVariants as forecast

-- in a game of n members, each place of a is in c
abbrev pub IsSubset : ℕ → ℕ → ℕ → Type 0
IsSubset n a c = (p : ℕ) → p < n → has n p a ≡ true → has n p c ≡ true

-- some minimal winning coalition is a subset of c
pub record HasMinimalSubset (v : Votes) (c : ℕ) : Type 0 where
  pub subset : ℕ
  pub listed : Contains (minimal_coalitions v) subset
  pub inside : IsSubset v.members subset c

-- each winning coalition has such a subset
abbrev pub HasMinimalSubsets : Votes → Type 0
HasMinimalSubsets v = (c : ℕ) → c < 2 ^ v.members → wins v c ≡ true → HasMinimalSubset v c

-- a place that is in all minimal winning coalitions is in each winning coalition
abbrev pub HasVetoersInAll : Votes → Type 0
HasVetoersInAll v =
    (p : ℕ) → p < v.members → All (λ m. has v.members p m ≡ true) (minimal_coalitions v)
    → (c : ℕ) → c < 2 ^ v.members → wins v c ≡ true → has v.members p c ≡ true

-- the same members under only the rules of a way
abbrev pub by_way : Votes → List ℕ → Votes
by_way v way = record { members = v.members; rules = map (rule_at v.rules) way; ways = one_way (length way) }

-- ---- of a game, member by member
-- some minimal winning coalition has only members of c
pub record HasMinimalSubsetOf (g : GameView) (c : ℕ) : Type 0 where
  pub subset : ℕ
  pub listed : Contains (minimal_coalitions (votes_of g)) subset
  pub inside : IsSubsetOf g subset c

-- member i is a vetoer: no coalition wins without it
abbrev pub IsVetoer : GameView → ℕ → Type 0
IsVetoer g i = (c : ℕ) → c < 2 ^ length g.names → wins (votes_of g) c ≡ true → contains g i c ≡ true

-- member i is in each minimal winning coalition
abbrev pub IsInAll : GameView → ℕ → Type 0
IsInAll g i = All (λ m. contains g i m ≡ true) (minimal_coalitions (votes_of g))

-- no member is in both coalitions
abbrev pub AreDisjoint : GameView → ℕ → ℕ → Type 0
AreDisjoint g a c = (i : ℕ) → i < length g.names → contains g i a ≡ true → contains g i c ≡ false

-- no two disjoint coalitions win
abbrev pub IsProper : GameView → Type 0
IsProper g = (a c : ℕ) → AreDisjoint g a c → wins (votes_of g) a ≡ true → wins (votes_of g) c ≡ false

-- each two ways have a rule in common whose quota is above half of its total
abbrev pub have_high_rules : GameView → Bool
have_high_rules g =
    let is_high : ℕ → Bool = λ r. not (has_low_quota (rule_at g.rules r)) in
    list_all (λ way. list_all (λ other. list_any (λ r. has_rule other r && is_high r) way) g.ways) g.ways

-- The rules of g are those of h under other numbers, and with these numbers each way of one game
-- has all rules of some way of the other.
pub record HaveSameWays (to : ℕ → ℕ) (g h : GameView) : Type 0 where
  pub below : (r : ℕ) → r < length g.rules → to r < length h.rules
  pub rules : (r : ℕ) → r < length g.rules → rule_at h.rules (to r) ≡ rule_at g.rules r
  pub enough : list_all (λ way. list_any (covers (map to way)) h.ways) g.ways ≡ true
  pub needed : list_all (λ way. list_any (λ other. covers way (map to other)) g.ways) h.ways ≡ true

-- coalition c may come of these votes: it has each of the ayes, and none of the nays
abbrev pub MayCome : GameView → ℕ → ℕ → ℕ → Type 0
MayCome g ayes nays c = IsSubsetOf g ayes c × AreDisjoint g nays c

-- All coalitions that may come of the votes win, or all lose, or some win and some lose. (If a
-- member is in both, none may come.)
abbrev pub Foresees : GameView → ℕ → ℕ → Forecast → Type 0
Foresees g ayes nays forecast.Passed = (c : ℕ) → MayCome g ayes nays c → wins (votes_of g) c ≡ true
Foresees g ayes nays forecast.Failed = (c : ℕ) → MayCome g ayes nays c → wins (votes_of g) c ≡ false
Foresees g ayes nays forecast.Open =
    AreDisjoint g ayes nays
    → ((c : ℕ) × MayCome g ayes nays c × (wins (votes_of g) c ≡ true)) × ((c : ℕ) × MayCome g ayes nays c × (wins (votes_of g) c ≡ false))
