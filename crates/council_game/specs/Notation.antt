-- The notation [q; w1, .., wn] of a rule (Felsenthal and Machover 1998).
use Rattle.std.specs.Prelude.{ℕ, List, ◌++◌, codes, decimal}
use Rattle.council_game.specs.Votes.{RuleView}
use Rattle.council_game.specs.Joined.{joined_numbers}

-- the quota, and the weights in file order
unfoldable pub notation : RuleView → List ℕ
notation r = codes "[" ++ decimal r.quota ++ codes "; " ++ joined_numbers (codes ", ") r.weights ++ codes "]"
