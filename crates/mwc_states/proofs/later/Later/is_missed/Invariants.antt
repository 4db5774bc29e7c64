use Rattle.mwc_states.proofs.Imports.{◌≡◌, ℕ, MOST, get_or, min, take, weigh_able}
use Rattle.mwc_states.proofs.later.Later.is_missed.Given as goal

abbrev pub invariant-loop-member : goal.invariant-loop-member
invariant-loop-member l = (r : ℕ) → get_or l.able r 0 ≡ min (weigh_able l.need l.row (take l.member-index l.self.members.now) r) MOST
