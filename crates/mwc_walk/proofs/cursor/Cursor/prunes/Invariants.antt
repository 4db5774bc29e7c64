use Rattle.mwc_walk.proofs.Imports.{◌≡◌, ◌<◌, ℕ, true, length, slice_index, votes_of, IsExcess}
use Rattle.mwc_walk.specs.Inner.Places.{in_set}
use Rattle.mwc_walk.proofs.cursor.Cursor.prunes.Given as goal

abbrev pub invariant-loop-rule : goal.invariant-loop-rule
invariant-loop-rule l = record {
  long : length l.excess ≡ 4;
  done : (i : ℕ) → i < l.rule → in_set l.set i ≡ true → IsExcess (votes_of l.game) l.set l.self.place l.self.prefix i (slice_index l.excess i);
}
