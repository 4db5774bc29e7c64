use Rattle.std.proofs.Common.{◌≡◌, ◌≤◌, ◌<◌, ◌^◌, ℕ, false, not, length}
use Rattle.council_game.specs.Members.{contains}
use Rattle.game_calls.proofs.membership.outsiders.Given as goal

abbrev pub invariant-loop-member : goal.invariant-loop-member
invariant-loop-member l = record {
  before : (i : ℕ) → i < l.member → contains l.game i l.outsiders ≡ not (contains l.game i l.coalition);
  after : (i : ℕ) → i < length l.game.names → l.member ≤ i → contains l.game i l.outsiders ≡ false;
  below : l.outsiders < 2 ^ length l.game.names;
}
