use Rattle.mwc_states.proofs.Imports.{◌≡◌, ℕ, MOST, get_or, min, take}
use Rattle.mwc_states.specs.Inner.Later.{weigh_able_any}
use Rattle.mwc_states.proofs.later.Later.is_missed_any.Given as goal

abbrev pub invariant-loop-member : goal.invariant-loop-member
invariant-loop-member l = (r : ℕ) → get_or l.able r 0 ≡ min (weigh_able_any l.needs l.row (take l.member-index l.self.members.now) r) MOST
