use Rattle.council_game.proofs.Imports.{◌≡◌, ℕ, ◌<◌, ◌≤◌, length, get_or, votes_of, minimal_coalitions}
use Rattle.council_game.specs.Members.{HaveSameMembers}
use Rattle.std.proofs.Common.{◌^◌}
use Rattle.council_game.proofs.game.Game.renumber_all.Given as goal

abbrev pub invariant-loop-place : goal.invariant-loop-place
invariant-loop-place l = record {
  long : length l.list ≡ length (minimal_coalitions (votes_of l.self));
  moved : (k : ℕ) → k < l.place → HaveSameMembers l.self l.other (get_or (minimal_coalitions (votes_of l.self)) k 0) (get_or l.list k 0);
  below : (k : ℕ) → k < length l.list → get_or l.list k 0 < 2 ^ length l.self.names;
  left : (k : ℕ) → l.place ≤ k → k < length l.list → get_or l.list k 0 ≡ get_or (minimal_coalitions (votes_of l.self)) k 0;
}
