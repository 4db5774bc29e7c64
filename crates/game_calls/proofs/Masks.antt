-- The empty coalition.
use Rattle.council_game.proofs.Shared.Digits.{has-none}

pub ruleset empty = (has-none)
