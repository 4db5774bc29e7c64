-- What a game is, and the checks that make one.
use Rattle.std.specs.Prelude.{◌≡◌, ◌<◌, ◌≤◌, ◌/◌, ◌^◌, All, ℕ, Bool, false, not, ◌&&◌, ◌||◌, ◌==◌, nat_lt, nat_le, nat_eq, List, [], ◌∷◌, length}
use Rattle.std.specs.Prelude.{take, map, sum, position, slice_index, slice_index_or, Option, Result, Ok}
use Rattle.std.specs.List.{list_any, list_all, range_with_len}
use Rattle.std.specs.Option.{option_map_or}
use Rattle.std.specs.Cmp.Lexicographic.{pointwise}
use Rattle.council_game.specs.declared.limits.TheConstants.{MEMBERS, RULES, WEIGHT, TITLE_BYTES, NAME_BYTES}
use Rattle.council_game.specs.declared.fault.GameFault.{GameFault}
use Rattle.council_game.specs.declared.fault.GameFault.TheVariants.{Title, Ways, Members, Name, SameName, Weight, QuotaRange}
use Rattle.council_game.specs.Fault.{◌>>=◌, refuse, refuse_at}
use Rattle.council_game.specs.Ways.{are_ways}
use Rattle.council_game.specs.Votes.{RuleView, Votes, rule_at}
use Rattle.council_game.specs.Ranks.{AreOfRanking, places, rank_places, rule_by_rank}

pub record GameView : Type 0 where
  pub title : Option (List ℕ)
  pub names : List (List ℕ)
  pub rules : List RuleView
  pub ways : List (List ℕ)
  pub ranks : List ℕ

-- no byte below 0x20 and no byte 0x7F
abbrev pub is_plain : List ℕ → Bool
is_plain bs = list_all (λ b. nat_le 32 b && not (b == 127)) bs

abbrev pub is_title : List ℕ → Bool
is_title bs = nat_le (length bs) TITLE_BYTES && is_plain bs

abbrev pub is_name : List ℕ → Bool
is_name bs = (nat_le 1 (length bs) && nat_le (length bs) NAME_BYTES) && is_plain bs

-- an earlier member has the name of member k
abbrev pub is_repeat : List (List ℕ) → ℕ → Bool
is_repeat names k = list_any (pointwise nat_eq (slice_index_or names k [])) (take k names)

-- a weight of member k is above the limit
abbrev pub is_heavy : List RuleView → ℕ → Bool
is_heavy rules k = list_any (λ r. nat_lt WEIGHT (slice_index r.weights k)) rules

abbrev pub has_bad_quota : RuleView → Bool
has_bad_quota r = nat_lt r.quota 1 || nat_lt (sum r.weights) r.quota

-- the weights of a rule together
abbrev pub total : RuleView → ℕ
total r = sum r.weights

-- a rule asks for at most half of the total of its weights; all rules of some way do
abbrev pub has_low_quota : RuleView → Bool
has_low_quota r = nat_le r.quota (total r / 2)

abbrev pub has_low_quotas : GameView → Bool
has_low_quotas g = list_any (list_all (λ r. has_low_quota (rule_at g.rules r))) g.ways

abbrev pub first_weights : List RuleView → List ℕ
first_weights [] = []
first_weights (r ∷ rs) = r.weights

-- the game, or the first fault
unfoldable pub made_game : Option (List ℕ) → List (List ℕ) → List RuleView → List (List ℕ) → Result GameView GameFault
made_game title names rules ways = do
  _ ← refuse (option_map_or (λ t. not (is_title t)) title false) Title
  _ ← refuse (not (are_ways (length rules) ways)) Ways
  _ ← refuse (nat_lt (length names) 1 || nat_lt MEMBERS (length names)) Members
  _ ← refuse_at Name (position (λ name. not (is_name name)) names)
  _ ← refuse_at SameName (position (is_repeat names) (places names))
  _ ← refuse_at Weight (position (is_heavy rules) (range_with_len 0 (length names)))
  _ ← refuse (list_any has_bad_quota rules) QuotaRange
  Ok (record { title = title; names = names; rules = rules; ways = ways; ranks = rank_places (first_weights rules) })

-- the game that its first rule ranks
abbrev pub ranked_by_first : GameView → GameView
ranked_by_first g = record g { ranks = rank_places (first_weights g.rules) }

-- What is a game: its checks pass, it has 1 to 4 rules, each with a weight for each member, and its
-- rank places are those of a ranking: by weight if it has one rule.
pub record IsGame (g : GameView) : Type 0 where
  pub made : made_game g.title g.names g.rules g.ways ≡ Ok (ranked_by_first g)
  pub each_member : length g.ranks ≡ length g.names
  pub ranked : AreOfRanking g.ranks
  pub by_weight : length g.rules ≡ 1 → g.ranks ≡ rank_places (first_weights g.rules)
  pub has_rule : 0 < length g.rules
  pub few_rules : length g.rules ≤ RULES
  pub full : All (λ r. length r.weights ≡ length g.names) g.rules

-- the votes of a game: its rules by rank
abbrev pub votes_of : GameView → Votes
votes_of g = record { members = length g.names; rules = map (rule_by_rank g.ranks) g.rules; ways = g.ways }

-- coalitions of a game, none of them empty; that its minimal winning coalitions are such is a law
-- of `power_index`, `laws::minimal_coalitions_can_be_counted`
abbrev pub AreNonemptyCoalitions : GameView → List ℕ → Type 0
AreNonemptyCoalitions g list = All (λ c. (0 < c) × (c < 2 ^ length g.names)) list
