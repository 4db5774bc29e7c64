use Rattle.mwc_states.proofs.Imports.{◌≡◌, ◌∷◌, Bool, List, true, fits, misses_all, take, weigh}
use Rattle.mwc_states.proofs.state.list_misses.Given as goal

abbrev pub invariant-loop-miss : goal.invariant-loop-miss
invariant-loop-miss l = (set : List Bool) → fits l.later.members.now l.need set ≡ true → misses_all (weigh l.later.members.now set) l.misses.items
    ≡ misses_all (weigh (l.member ∷ l.later.members.now) (l.taken ∷ set)) (take l.miss-index l.old_misses)
