use Rattle.council_game.proofs.Imports.{◌≡◌, ◌<◌, ◌^◌, ◌==◌, ℕ, length, take, get_or, list_any, has}
use Rattle.council_game.proofs.game.Game.coalition_of.Given as goal

abbrev pub invariant-loop-member : goal.invariant-loop-member
invariant-loop-member l = record {
  members : (i : ℕ) → i < length l.self.names →
      has (length l.self.names) (get_or l.self.ranks i 0) l.coalition ≡ list_any (λ j. j == i) (take l.member-index l.members);
  below : l.coalition < 2 ^ length l.self.names;
}
