-- Votes as the code holds them.
use Rattle.std.specs.Prelude.{ℕ, List}
use Rattle.council_game.specs.declared.rule.Rule.{Rule}
use Rattle.council_game.specs.declared.way.Way.{Way}
use Rattle.council_game.specs.Votes.{Votes}
use Rattle.council_game.specs.Rules.{rule_views, way_views}

-- the votes of rules by rank, and ways
abbrev pub votes : ℕ → List Rule → List Way → Votes
votes n rules ways = record { members = n; rules = rule_views rules; ways = way_views ways }
