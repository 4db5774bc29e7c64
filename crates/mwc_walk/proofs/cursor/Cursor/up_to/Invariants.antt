use Rattle.mwc_walk.proofs.Imports.{votes_of, ◌≤◌, NotYet, SomeSteps, steps_left}
use Rattle.mwc_walk.proofs.cursor.Cursor.up_to.Given as goal

abbrev pub invariant-loop-self : goal.invariant-loop-self
invariant-loop-self l = record { steps : SomeSteps (votes_of l.game) l.initial.self NotYet l.self; few : l.self.visits ≤ l.visits }

abbrev pub decreases-loop-self : goal.decreases-loop-self
decreases-loop-self l = steps_left (votes_of l.game) l.self
