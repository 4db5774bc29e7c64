use Rattle.std.proofs.Common.{◌≡◌, ◌<◌, ◌≤◌, ℕ, get_or, length}
use Rattle.council_game.specs.{Game.total, Votes.rule_at}
use Rattle.council_c.proofs.numbers.totals_of.Given as goal

abbrev pub invariant-loop-r : goal.invariant-loop-r
invariant-loop-r l = record {
  long : length l.totals ≡ 4;
  rest : (r : ℕ) → l.r ≤ r → get_or l.totals r 0 ≡ 0;
  done : (r : ℕ) → r < l.r → get_or l.totals r 0 ≡ total (rule_at l.game.rules r);
}
