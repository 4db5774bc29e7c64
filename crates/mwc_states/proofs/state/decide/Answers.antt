use Rattle.mwc_states.proofs.Leaving.{leads-winning}
use Rattle.mwc_states.proofs.state.decide.Goals as goal

pub returns-in_ok-list_needs-in-Winning : goal.returns-in_ok-list_needs-in-Winning
returns-in_ok-list_needs-in-Winning c = rw c.in-Winning.is (leads-winning _ _ _ _ _ c.in_ok-list_needs-in-Winning.ensures)
