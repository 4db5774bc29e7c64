use Rattle.council_game.proofs.Imports.{◌≡◌, ◌<◌, ℕ, true, false, has, without, wins, votes}
use Rattle.council_game.proofs.winning.is_minimal.Given as goal

abbrev pub invariant-loop-place : goal.invariant-loop-place
invariant-loop-place l =
    (p : ℕ) → p < l.place → has l.members p l.coalition ≡ true
    → wins (votes l.members l.rules l.ways) (without l.members p l.coalition) ≡ false
