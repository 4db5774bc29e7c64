use Rattle.mwc_walk.proofs.Imports.{◌≡◌, ◌<◌, ℕ, length, weight, votes_of, rule_at, lane_at, LaneIs}
use Rattle.mwc_walk.proofs.lane.lanes_of.Given as goal

abbrev pub invariant-loop-rule : goal.invariant-loop-rule
invariant-loop-rule l = record {
  long : length l.lanes ≡ 4;
  made : (i : ℕ) → i < l.rule → LaneIs (votes_of l.game).members (rule_at (votes_of l.game).rules i) (lane_at l.lanes i);
  sums : (i : ℕ) → i < l.rule → (lane_at l.lanes i).sum ≡ weight (rule_at (votes_of l.game).rules i).weights l.fixed;
}
