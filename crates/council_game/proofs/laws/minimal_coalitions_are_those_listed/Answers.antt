use Rattle.council_game.proofs.Shared.Listing.{listed-is}
use Rattle.council_game.proofs.laws.minimal_coalitions_are_those_listed.Goals as goal

pub returns : goal.returns
returns c = listed-is
