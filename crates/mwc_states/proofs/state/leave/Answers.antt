use Rattle.mwc_states.proofs.{Imports.◌∙◌, Imports.sym, Leaving.leads-dead, Leaving.leads-open}
use Rattle.mwc_states.proofs.state.leave.Goals as goal

pub returns-then-is_implied : goal.returns-then-is_implied
returns-then-is_implied c = rw c.clear.ensures.items (leads-dead _ _ _ _ _ _ c.requires.alike _
    (leads-open _ _ _ _ _ _ c.requires.alike _ c.in_ok-list_misses.ensures) (rw c.deref.ensures.value at (sym c.is_implied.ensures ∙ c.if-is_implied.true)))

pub returns : goal.returns
returns c = rw c.in_ok-insert.ensures.items (leads-open _ _ _ _ _ _ c.requires.alike _ c.in_ok-list_misses.ensures)
