-- A game's members and quotas as rows, the members by rank place; and which coalitions are counted.
use Rattle.std.specs.Prelude.{ℕ, ◌≡◌, ◌<◌, ◌≤◌, ◌^◌, Bool, true, List, [], length, slice_index, slice_index_or, if◌then◌else◌}
use Rattle.std.specs.List.{filter}
use Rattle.council_game.specs.declared.limits.TheConstants.{MEMBERS}
use Rattle.council_game.specs.Votes.{RuleView, Votes, down, has, minimal, rule_at, wins}
use Rattle.council_game.specs.Ways.{has_rule}
use Rattle.council_game.specs.Game.{AreNonemptyCoalitions, GameView}
use Rattle.mwc_states.specs.declared.set_counts.SetCounts.{SetCounts}
use Rattle.power_index.specs.Tables.{AreSizeCounts}
use Rattle.mwc_states.specs.declared.state.What.{What}
use Rattle.mwc_states.specs.Inner.Tables.{state_of}
use Rattle.mwc_states.specs.declared.state.What.TheVariants.{Minimal, ByWays, Winning}

-- a coalition is counted
abbrev pub is_counted : What → Votes → ℕ → Bool
is_counted Minimal v c = minimal v c
is_counted ByWays v c = minimal v c
is_counted Winning v c = wins v c

-- those that are
abbrev pub counted_coalitions : What → Votes → List ℕ
counted_coalitions what v = filter (is_counted what v) (down (2 ^ v.members))

-- the need of a way: the quotas of its rules
abbrev pub IsNeedOf : List RuleView → List ℕ → List ℕ → Type 0
IsNeedOf rules way need = (r : ℕ) → slice_index need r ≡ (if has_rule way r then (rule_at rules r).quota else 0)

-- a need for each of the first i ways
pub record AreNeedsOf (v : Votes) (needs : List (List ℕ)) (i : ℕ) : Type 0 where
  pub long : length needs ≡ i
  pub each : (k : ℕ) → k < i → IsNeedOf v.rules (slice_index_or v.ways k []) (slice_index_or needs k [])

-- the state in which no member is decided: the needs of all ways
pub record IsStart (what : What) (v : Votes) (state : List (List ℕ)) : Type 0 where
  pub needs : List (List ℕ)
  pub are : AreNeedsOf v needs (length v.ways)
  pub same : state ≡ state_of what needs

-- the weights of the first i places under each rule; no weight past the rules
pub record AreRowsOf (rules : List RuleView) (rows : List (List ℕ)) (i : ℕ) : Type 0 where
  pub long : length rows ≡ i
  pub weights : (p r : ℕ) → p < i → slice_index (slice_index_or rows p []) r ≡ slice_index (rule_at rules r).weights p

-- counts of a list of coalitions of a game, none of them empty: of all, and by rank place
pub record AreCountsOf (g : GameView) (list : List ℕ) (counts : SetCounts) : Type 0 where
  pub few : length list ≤ 2 ^ MEMBERS
  pub coalitions : AreNonemptyCoalitions g list
  pub all : AreSizeCounts (length g.names) (λ _. true) list counts.all
  pub each : (p : ℕ) → p < length g.names → AreSizeCounts (length g.names) (has (length g.names) p) list (slice_index_or counts.each p [])
