use Rattle.mwc_walk.proofs.Imports.{◌≡◌, ◌<◌, ℕ, [], length, votes_of, IsRow}
use Rattle.std.proofs.Common.{get_or}
use Rattle.mwc_walk.proofs.price.PriceTable.new.Given as goal

abbrev pub invariant-loop-rule : goal.invariant-loop-rule
invariant-loop-rule l = record {
  long : length l.by ≡ 4;
  made : (i : ℕ) → i < l.rule → IsRow (votes_of l.game) i (get_or l.by i []);
}
