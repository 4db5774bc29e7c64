use Rattle.mwc_states.proofs.Imports.{◌≡◌, ◌∷◌, ◌&&◌, Bool, List, true, misses_all, take, weigh}
use Rattle.mwc_states.specs.Inner.States.{fits_any}
use Rattle.mwc_states.proofs.state.list_misses_any.Given as goal

abbrev pub invariant-loop-miss : goal.invariant-loop-miss
invariant-loop-miss l = (set : List Bool) → fits_any l.later.members.now l.needs set ≡ true → misses_all (weigh l.later.members.now set) l.misses.items
    ≡ misses_all (weigh (l.member ∷ l.later.members.now) (l.taken ∷ set)) (take l.miss-index l.old_misses)

abbrev pub invariant-loop-need : goal.invariant-loop-need
invariant-loop-need l = (set : List Bool) → fits_any l.later.members.now l.needs set ≡ true → misses_all (weigh l.later.members.now set) l.misses.items
    ≡ (misses_all (weigh l.later.members.now set) (take l.need-index l.old_needs)
    && misses_all (weigh (l.member ∷ l.later.members.now) (l.taken ∷ set)) l.old_misses)
