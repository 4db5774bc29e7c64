use Rattle.mwc_walk.proofs.Imports.{◌≡◌, ◌<◌, ℕ, true, votes_of, rule_at}
use Rattle.mwc_walk.specs.Inner.Places.{can_meet, in_set}
use Rattle.mwc_walk.proofs.cursor.Cursor.can_meet.Given as goal

abbrev pub invariant-loop-rule : goal.invariant-loop-rule
invariant-loop-rule l = (i : ℕ) → i < l.rule → in_set l.set i ≡ true → can_meet l.self.place l.self.prefix (rule_at (votes_of l.game).rules i) ≡ true
