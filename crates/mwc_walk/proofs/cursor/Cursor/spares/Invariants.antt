use Rattle.mwc_walk.specs.Inner.Places.{in_set}
use Rattle.mwc_walk.proofs.Imports.{◌≡◌, ◌≤◌, ◌<◌, ℕ, true, slice_index, votes_of, rule_at}
use Rattle.mwc_walk.proofs.cursor.Cursor.spares.Given as goal

abbrev pub invariant-loop-rule : goal.invariant-loop-rule
invariant-loop-rule l = (i : ℕ) → i < l.rule → in_set l.set i ≡ true → slice_index (rule_at (votes_of l.game).rules i).weights l.place ≤ slice_index l.excess i
