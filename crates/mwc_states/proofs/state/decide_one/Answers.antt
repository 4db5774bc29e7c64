use Rattle.mwc_states.proofs.Imports.{arith, both_ways, false_from_ne_true, length, nat_tests}
use Rattle.mwc_states.proofs.Leaving.{alike-left, leads-unmet, no-state}
use Rattle.mwc_states.proofs.state.decide_one.Goals as goal

pub returns-in_default : goal.returns-in_default
returns-in_default c set = grind (arith, nat_tests, no-state, length)

pub returns-then-not-is_reachable : goal.returns-then-not-is_reachable
returns-then-not-is_reachable c = rw (c.requires, c.in-Some.ensures.cases.0) (leads-unmet _ _ _ _ _ _
    (alike-left _ _ _ _ _ _ c.reduce.ensures c.raise-need.ensures)
    (λ set. false_from_ne_true _ (λ e. both_ways _ c.if-not-is_reachable.true (c.is_reachable.ensures set e))))

pub leave-requires-clause-alike : goal.leave-requires-clause-alike
leave-requires-clause-alike c = alike-left _ _ _ _ _ _ c.reduce.ensures c.raise-need.ensures
