use Rattle.council_game.proofs.Imports.{◌≡◌, ◌<◌, ℕ, map, false, string_bytes, is_repeat}
use Rattle.council_game.proofs.checks.check_repeats.Given as goal

abbrev pub invariant-loop-k : goal.invariant-loop-k
invariant-loop-k l = (i : ℕ) → i < l.k → is_repeat (map string_bytes l.names) i ≡ false
