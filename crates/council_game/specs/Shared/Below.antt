-- The minimal winning coalitions that are still to be listed.
use Rattle.std.specs.Prelude.{ℕ, List}
use Rattle.std.specs.List.{filter}
use Rattle.council_game.specs.Votes.{Votes, minimal, down}

-- the minimal winning coalitions below a number, in listing order
unfoldable pub minimal_below : Votes → ℕ → List ℕ
minimal_below v bound = filter (minimal v) (down bound)
