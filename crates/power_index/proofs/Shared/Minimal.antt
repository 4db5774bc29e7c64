-- The minimal winning coalitions of a game can be counted.
use Rattle.power_index.proofs.Imports.{◌^◌, ◌<◌, ◌≤◌, length, arith, GameView, IsGame, AreNonemptyCoalitions, votes-are}
use Rattle.std.proofs.Common.{pow_mono}
use Rattle.council_game.specs.{Game.votes_of, Votes.minimal_coalitions}
use Rattle.council_game.proofs.Shared.Listing.{listing-is}
use Rattle.power_index.proofs.Shared.Members.{few-members}

pub minimal-some : (g : GameView) → IsGame g → 0 < length (minimal_coalitions (votes_of g))
minimal-some g game = (listing-is (votes_of g) (votes-are g game)).some

pub minimal-are-coalitions : (g : GameView) → IsGame g → AreNonemptyCoalitions g (minimal_coalitions (votes_of g))
minimal-are-coalitions g game k d lt = grind (arith, listing-is, votes-are)

pub minimal-few : (g : GameView) → IsGame g → length (minimal_coalitions (votes_of g)) ≤ 2 ^ 40
minimal-few g game = grind (arith, few-members, listing-is, pow_mono, votes-are)

pub ruleset can_be_counted = (minimal-some, minimal-are-coalitions, minimal-few)
