use Rattle.power_index.proofs.Imports.{◌≡◌, ℕ, List, length, map, range_with_len, GameView, AreCounts}
use Rattle.power_index.specs.MemberIndices.{indices_of_member}
use Rattle.power_index.proofs.member_indices.all_indices.Given as goal

abbrev pub invariant-loop-member : goal.invariant-loop-member
invariant-loop-member l = record {
  count : length l.all.items ≡ l.member;
  indices : (g : GameView) (list : List ℕ) → AreCounts g list l.counts
      → l.all.items ≡ map (indices_of_member g list) (range_with_len 0 l.member);
}
