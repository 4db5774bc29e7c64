use Rattle.mwc_walk.proofs.Imports.{◌≡◌, ◌<◌, ℕ, [], length, get_or, votes_of}
use Rattle.mwc_walk.specs.Inner.Places.{IsWay}
use Rattle.mwc_walk.proofs.rule_set.sets_of.Given as goal

abbrev pub invariant-loop-way : goal.invariant-loop-way
invariant-loop-way l = record {
  long : length l.sets ≡ 6;
  made : (k : ℕ) → k < l.way → IsWay (votes_of l.game) k (get_or l.sets k []);
}
