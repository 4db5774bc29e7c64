-- Counts that may stop.
use Rattle.std.specs.Prelude.{◌≡◌, ◌≤◌, ◌*◌, ◌^◌, ℕ, length}
use Rattle.council_game.specs.Game.{GameView}
use Rattle.council_run.specs.Run.{count_of}

-- A walk over a game may take this many visits: at most one for each member and each set of
-- members, and under one rule for each member and each minimal winning coalition.
abbrev pub IsTooLong : ℕ → GameView → Type 0
IsTooLong visits g =
    (visits ≤ length g.names * 2 ^ length g.names) × (length g.rules ≡ 1 → visits ≤ length g.names * count_of g)
