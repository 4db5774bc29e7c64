-- Weighted voting games as plain data, and their minimal winning coalitions.
use Rattle.std.specs.Prelude.{ℕ, zero, suc, ◌^◌, Bool, true, not, ◌&&◌, nat_le, List, [], ◌∷◌, length, ◌≡◌, ◌≤◌, ◌<◌, slice_index, slice_index_or}
use Rattle.std.specs.Prelude.{sum_by, ⊤}
use Rattle.std.specs.List.{filter, sum, list_all, list_any, AllByRecursion}
use Rattle.council_game.specs.declared.limits.TheConstants.{MEMBERS, RULES, TOTAL}
use Rattle.council_game.specs.Ways.{are_ways}
unfoldable pub use Rattle.council_game.specs.Coalitions.{has, without}
pub use Rattle.council_game.specs.Coalitions.{places_of, size}

-- a quota, and a weight for each member: in a game by the file's order, in its votes by rank
pub record RuleView : Type 0 where
  pub quota : ℕ
  pub weights : List ℕ

-- a game of n members: its rules over one order of places, and the ways to win by them
pub record Votes : Type 0 where
  pub members : ℕ
  pub rules : List RuleView
  pub ways : List (List ℕ)

-- rule number i
abbrev pub rule_at : List RuleView → ℕ → RuleView
rule_at rs i = slice_index_or rs i (record { quota = 0; weights = [] })

-- a rule of a game of n members: it weighs each member, and its quota can be met
pub record IsRule (n : ℕ) (r : RuleView) : Type 0 where
  pub full : length r.weights ≡ n
  pub some : 1 ≤ r.quota
  pub met : r.quota ≤ sum r.weights
  pub light : sum r.weights ≤ TOTAL

-- heavier places come first
abbrev pub IsRanked : List RuleView → Type 0
IsRanked [] = ⊤
IsRanked (r ∷ rs) = (a b : ℕ) → a ≤ b → b < length r.weights → slice_index r.weights b ≤ slice_index r.weights a

-- 1 to 40 members, 1 to 4 rules, and ways by these; the places are ranked by weight if there is
-- one rule
pub record IsVotes (v : Votes) : Type 0 where
  pub some : 1 ≤ v.members
  pub few : v.members ≤ MEMBERS
  pub has_rule : 1 ≤ length v.rules
  pub few_rules : length v.rules ≤ RULES
  pub rules : AllByRecursion (IsRule v.members) v.rules
  pub ways : are_ways (length v.rules) v.ways ≡ true
  pub ranked : length v.rules ≡ 1 → IsRanked v.rules

-- the sum of the weights of the places in c
unfoldable pub weight : List ℕ → ℕ → ℕ
weight ws c = sum_by (slice_index ws) (places_of (length ws) c)

-- c meets the quota of a rule
abbrev pub meets_quota : ℕ → RuleView → Bool
meets_quota c r = nat_le r.quota (weight r.weights c)

-- c wins if it meets each rule of some way
unfoldable pub wins : Votes → ℕ → Bool
wins v c = list_any (list_all (λ r. meets_quota c (rule_at v.rules r))) v.ways

-- a minimal winning coalition wins, and loses without any one of its members
unfoldable pub minimal : Votes → ℕ → Bool
minimal v c = wins v c && list_all (λ p. not (wins v (without v.members p c))) (places_of v.members c)

-- n - 1, .., 1, 0
unfoldable pub down : ℕ → List ℕ
down zero = []
down (suc n) = n ∷ down n

-- the minimal winning coalitions, in listing order
unfoldable pub minimal_coalitions : Votes → List ℕ
minimal_coalitions v = filter (minimal v) (down (2 ^ v.members))
