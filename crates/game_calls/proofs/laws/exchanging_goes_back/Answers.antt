use Rattle.council_game.proofs.Shared.Renamed.{exchange}
use Rattle.game_calls.proofs.laws.exchanging_goes_back.Goals as goal

pub returns : goal.returns
returns c = exchange
