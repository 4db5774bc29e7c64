use Rattle.mwc_states.proofs.Imports.{All, AreSums}
use Rattle.mwc_states.proofs.later.Later.new.Given as goal

abbrev pub invariant-loop-rule : goal.invariant-loop-rule
invariant-loop-rule l = All (λ list. AreSums list.rule l.members list.rows.items) l.sums.items
