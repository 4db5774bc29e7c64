use Rattle.mwc_states.proofs.Imports.{◌≡◌, ◌∷◌, Bool, List, misses_all, take, weigh}
use Rattle.mwc_states.proofs.state.list_needs.Given as goal

abbrev pub invariant-loop-need : goal.invariant-loop-need
invariant-loop-need l = (set : List Bool) → misses_all (weigh l.later.members.now set) l.needs.items
    ≡ misses_all (weigh (l.member ∷ l.later.members.now) (l.taken ∷ set)) (take l.need-index l.old)
