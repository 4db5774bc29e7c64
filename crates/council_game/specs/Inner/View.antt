-- What contracts see of a game, and what its tables hold.
use Rattle.std.specs.Prelude.{◌≡◌}
use Rattle.council_game.specs.declared.game.Game.TheInside.{Inside}
use Rattle.council_game.specs.Ranks.{members_by_rank}
use Rattle.council_game.specs.Game.{GameView, IsGame, votes_of}
use Rattle.council_game.specs.Rules.{rule_views}
use Rattle.council_game.specs.Inner.Parts.{game_of_parts}

abbrev pub game_view : Inside → GameView
game_view g = game_of_parts g.title g.names.items g.rules.items g.ways.items g.ranks.items

pub record IsInside (g : Inside) : Type 0 where
  pub game : IsGame (game_view g)
  pub order : g.order.items ≡ members_by_rank g.ranks.items
  pub ranked : rule_views g.ranked.items ≡ (votes_of (game_view g)).rules
