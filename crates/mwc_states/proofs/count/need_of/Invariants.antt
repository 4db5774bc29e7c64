use Rattle.mwc_states.proofs.Imports.{◌≡◌, ℕ, cond, length, get_or, take, votes_of}
use Rattle.council_game.specs.{Votes.rule_at, Ways.has_rule}
use Rattle.mwc_states.proofs.count.need_of.Given as goal

abbrev pub invariant-loop-rule : goal.invariant-loop-rule
invariant-loop-rule l = record {
  long : length l.need ≡ 4;
  done : (r : ℕ) → get_or l.need r 0 ≡ cond (has_rule (take l.rule-index l.rule-items) r) (rule_at (votes_of l.game).rules r).quota 0;
}
