use Rattle.power_index.proofs.Imports.{◌≡◌, ◌∙◌, refl, size}
use Rattle.power_index.proofs.Shared.Sound.{more-hold, more-kept}
use Rattle.power_index.proofs.counts.Counts.count.Goals as goal

-- the number of digits 1 is the size
size-is : (c : goal.After-add_to_places) → c.from-size.result ≡ size c.self.inside.members c.args.coalition
size-is c = c.from-size.ensures ∙ c.size.ensures.size c.self.inside.members (rw (← c.self.view_is) at c.requires.below)

pub invariant_of-self : goal.invariant_of-self
invariant_of-self c =
    let below = rw (← c.self.view_is) at c.requires.below in
    let room = rw (← c.self.view_is) at c.requires.room in
    (more-kept _ _ c.args.coalition c.self.invariant c.requires.some below room
    (λ g list. more-hold g list _ _ _ _ _ (size-is c) refl c.add_to_places.ensures)).0

pub returns-clause-total : goal.returns-clause-total
returns-clause-total c =
    let below = rw (← c.self.view_is) at c.requires.below in
    let room = rw (← c.self.view_is) at c.requires.room in
    rw (← c.self.view_is) (more-kept _ _ c.args.coalition c.self.invariant c.requires.some below room
    (λ g list. more-hold g list _ _ _ _ _ (size-is c) refl c.add_to_places.ensures)).1

pub returns-clause-tallies : goal.returns-clause-tallies
returns-clause-tallies c g list = rw (← c.self.view_is) (more-hold g list _ _ _ _ _ (size-is c) refl c.add_to_places.ensures)
