-- The order of members by what they contribute to winning.
use Rattle.std.specs.Prelude.{ℕ, ◌+◌, ◌-◌, ◌*◌, ◌/◌, min, map, slice_index, sum_by}
use Rattle.council_game.specs.Game.{GameView, total}
use Rattle.council_game.specs.Members.{members}
use Rattle.council_game.specs.Ranks.{rank_places}
use Rattle.council_game.specs.Votes.{RuleView}
use Rattle.council_game.specs.declared.contribution.TheConstants.{PARTS, MOST}

-- what a member of this weight contributes to a rule: its weight in parts of what the rule can do
-- without, and one; all of that is 10^15 parts, and 4,000 times that is the most
abbrev pub share_of : RuleView → ℕ → ℕ
share_of r weight = min (weight * PARTS / (total r - r.quota + 1)) MOST

-- what member i contributes to all rules
abbrev pub contribution : GameView → ℕ → ℕ
contribution g i = sum_by (λ r. share_of r (slice_index r.weights i)) g.rules

-- the game with its places in another order: members who contribute more come first
abbrev pub by_contribution : GameView → GameView
by_contribution g = record g { ranks = rank_places (map (contribution g) (members g)) }
