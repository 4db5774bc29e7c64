use Rattle.mwc_walk.proofs.Imports.{◌≡◌, ◌<◌, ℕ, true, votes_of, rule_at}
use Rattle.mwc_walk.specs.Inner.Places.{in_set, meets_at}
use Rattle.mwc_walk.proofs.cursor.Cursor.meets.Given as goal

abbrev pub invariant-loop-rule : goal.invariant-loop-rule
invariant-loop-rule l = (i : ℕ) → i < l.rule → in_set l.set i ≡ true → meets_at l.self.place l.self.prefix (rule_at (votes_of l.game).rules i) ≡ true
