use Rattle.mwc_states.proofs.Imports.{◌≡◌, not, true, list_all, meets, take}
use Rattle.std.specs.Prelude.{◌||◌, slice_index}
use Rattle.mwc_states.specs.Inner.Later.{is_able}
use Rattle.mwc_states.proofs.later.is_able_any.Given as goal

abbrev pub invariant-loop-need : goal.invariant-loop-need
invariant-loop-need l = list_all (λ need. not (meets (slice_index l.row) need) || is_able need l.row l.member) (take l.need-index l.needs) ≡ true
