-- The counts of a list of a game's coalitions, of which there are some, none of them empty.
use Rattle.std.specs.Prelude.{◌≡◌, ◌≤◌, length}
use Rattle.council_game.specs.Game.{GameView, IsGame}
use Rattle.power_index.specs.Tables.{AreSound, Tables, table_total}

pub record AreSomeCounts (g : GameView) (t : Tables) : Type 0 where
  pub game : IsGame g
  pub members : length g.names ≡ t.members
  pub sound : AreSound t
  pub some : 1 ≤ table_total t
