-- Games of the same members: under other rules, with other weights, at another quota.
use Rattle.std.specs.Prelude.{ℕ, ◌==◌, List, [], ◌∷◌, if◌then◌else◌, length, map}
use Rattle.std.specs.List.{range_with_len}
use Rattle.council_game.specs.Votes.{RuleView, rule_at}
use Rattle.council_game.specs.Game.{GameView, ranked_by_first}
use Rattle.council_game.specs.Ways.{one_way}

-- the members of a game under all of these rules, with the rank places by the first of them
abbrev pub under_rules : GameView → List RuleView → GameView
under_rules g rules = ranked_by_first (record g { rules = rules; ways = one_way (length rules) })

-- under one rule, of the first rule's quota and these weights
abbrev pub with_weights : GameView → List ℕ → GameView
with_weights g weights = under_rules g (record { quota = (rule_at g.rules 0).quota; weights = weights } ∷ [])

-- the members and the first rule of a game, at this quota, with the rank places by that rule
abbrev pub at_quota : GameView → ℕ → GameView
at_quota g q = under_rules g (record { quota = q; weights = (rule_at g.rules 0).weights } ∷ [])

-- rule k of a game, at quota q if it is rule r
abbrev pub at_quota_of : GameView → ℕ → ℕ → ℕ → RuleView
at_quota_of g r q k = record (rule_at g.rules k) { quota = if k == r then q else (rule_at g.rules k).quota }

-- the rules of a game, rule r at quota q
abbrev pub rules_at : GameView → ℕ → ℕ → List RuleView
rules_at g r q = map (at_quota_of g r q) (range_with_len 0 (length g.rules))

-- the game of these rules, and of the same ways, with the rank places by the first rule
abbrev pub with_quota : GameView → ℕ → ℕ → GameView
with_quota g r q = ranked_by_first (record g { rules = rules_at g r q })
