use Rattle.power_index.proofs.Imports.{◌≡◌, ℕ, ◌<◌, get_or, length}
use Rattle.power_index.proofs.counts.Counts.none.Given as goal

abbrev pub invariant-loop-i : goal.invariant-loop-i
invariant-loop-i l = record {
  long : length l.ranks ≡ 40;
  done : (j : ℕ) → j < l.i → get_or l.ranks j 0 ≡ get_or l.game.ranks j 0;
}
