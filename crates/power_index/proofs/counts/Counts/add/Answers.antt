use Rattle.power_index.proofs.Shared.Sound.{join-hold, join-kept}
use Rattle.power_index.proofs.counts.Counts.add.Goals as goal

pub invariant_of-self : goal.invariant_of-self
invariant_of-self c =
    let one = rw (← c.self.view_is, ← c.other.view_is) at c.requires.game in
    let room = rw (← c.self.view_is, ← c.other.view_is) at c.requires.room in
    (join-kept _ _ _ c.self.invariant c.other.invariant one room
    (λ g first second. join-hold g first second _ _ _ _ c.add_counts.ensures c.join_places.ensures)).0

pub returns-clause-total : goal.returns-clause-total
returns-clause-total c =
    let one = rw (← c.self.view_is, ← c.other.view_is) at c.requires.game in
    let room = rw (← c.self.view_is, ← c.other.view_is) at c.requires.room in
    rw (← c.self.view_is, ← c.other.view_is) (join-kept _ _ _ c.self.invariant c.other.invariant one room
    (λ g first second. join-hold g first second _ _ _ _ c.add_counts.ensures c.join_places.ensures)).1

pub returns-clause-tallies : goal.returns-clause-tallies
returns-clause-tallies c g first second =
    rw (← c.self.view_is, ← c.other.view_is)
    (join-hold g first second _ _ _ _ c.add_counts.ensures c.join_places.ensures)
