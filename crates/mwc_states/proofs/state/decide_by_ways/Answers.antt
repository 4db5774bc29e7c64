use Rattle.mwc_states.proofs.Imports.{◌∙◌, ℕ, arith, ap, nat_tests, length, take, drop, common_steps}
use Rattle.mwc_states.proofs.{Leaving.no-state, Ways.decided-dead, Ways.decided-open}
use Rattle.mwc_states.proofs.state.decide_by_ways.Goals as goal

pub returns-in_default : goal.returns-in_default
returns-in_default c set = grind (arith, nat_tests, no-state, length)

pub returns-then-is_empty : goal.returns-then-is_empty
returns-then-is_empty c =
    let rows = c.in-Some.rows.now in
    decided-dead c.args.later.now.members.now c.args.member.now c.args.taken c.args.state.now c.in-Some.head.now rows _ _ _ _ _
    (c.in-Some.ensures.cases.0) (c.split_at.ensures.front ∙ ap (λ (i : ℕ). take i rows) c.min.ensures)
    (c.split_at.ensures.back ∙ ap (λ (i : ℕ). drop i rows) c.min.ensures) c.in_ok-list_needs.ensures (rw c.deref.ensures.value at c.in_ok-list_misses_any.ensures)
    (rw c.deref-2.ensures.value at c.keep_alive.ensures)
    (grind (arith, nat_tests, common_steps))

pub returns : goal.returns
returns c =
    let rows = c.in-Some.rows.now in
    decided-open c.args.later.now.members.now c.args.member.now c.args.taken c.args.state.now c.in-Some.head.now rows _ _ _ _ _
    (c.in-Some.ensures.cases.0) (c.split_at.ensures.front ∙ ap (λ (i : ℕ). take i rows) c.min.ensures)
    (c.split_at.ensures.back ∙ ap (λ (i : ℕ). drop i rows) c.min.ensures) c.in_ok-list_needs.ensures (rw c.deref.ensures.value at c.in_ok-list_misses_any.ensures)
    (rw c.deref-2.ensures.value at c.keep_alive.ensures)
    _ (grind (arith, nat_tests, common_steps))
