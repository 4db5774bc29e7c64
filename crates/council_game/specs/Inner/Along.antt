-- Rules along a list of members.
use Rattle.std.specs.Prelude.{ℕ, List, map, slice_index}
use Rattle.council_game.specs.Votes.{RuleView}

-- the weights of a list of members
abbrev pub weights_at : List ℕ → List ℕ → List ℕ
weights_at ws members = map (slice_index ws) members

-- a rule, its weights in the order of a list of members
abbrev pub rule_along : List ℕ → RuleView → RuleView
rule_along members r = record { quota = r.quota; weights = weights_at r.weights members }
