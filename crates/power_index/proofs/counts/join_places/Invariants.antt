use Rattle.power_index.proofs.Imports.{◌≡◌, ℕ, ◌<◌, ◌≤◌, [], length, get_or, AreAdded}
use Rattle.power_index.proofs.counts.join_places.Given as goal

abbrev pub invariant-loop-place : goal.invariant-loop-place
invariant-loop-place l = record {
  long : length l.by_place ≡ 40;
  done : (p : ℕ) → p < l.place → AreAdded (get_or l.initial.by_place p []) (get_or l.other p []) (get_or l.by_place p []);
  rest : (p : ℕ) → l.place ≤ p → get_or l.by_place p [] ≡ get_or l.initial.by_place p [];
}
