-- What the law of the notation says of every game.
use Rattle.std.specs.Prelude.{◌≡◌, ◌<◌, ℕ, [], ◌∷◌, length, None, Ok}
use Rattle.council_game.specs.Votes.{RuleView, rule_at}
use Rattle.council_game.specs.Ranks.{rank_places}
use Rattle.council_game.specs.Game.{GameView}
use Rattle.council_game.specs.Ways.{one_way}
use Rattle.council_file.specs.Bracket.{counted_names}
use Rattle.council_file.specs.File.{game_of}
use Rattle.council_game.specs.Notation.{notation}

-- the game of one rule: no title, and members 1 to n
abbrev pub lone_game : RuleView → GameView
lone_game r = record {
  title = None;
  names = counted_names (length r.weights);
  rules = r ∷ [];
  ways = one_way 1;
  ranks = rank_places r.weights;
}

-- The notation of each rule is a game file, that of the game of this rule.
abbrev pub NotationReadsBack : GameView → Type 0
NotationReadsBack g =
    (r : ℕ) → r < length g.rules
    → game_of (notation (rule_at g.rules r)) ≡ Ok (lone_game (rule_at g.rules r))
