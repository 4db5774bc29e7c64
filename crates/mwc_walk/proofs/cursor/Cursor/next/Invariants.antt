use Rattle.mwc_walk.proofs.Imports.{votes_of, NotYet, SomeSteps, steps_left}
use Rattle.mwc_walk.proofs.cursor.Cursor.next.Given as goal

abbrev pub invariant-loop-step : goal.invariant-loop-step
invariant-loop-step l = SomeSteps (votes_of l.game) l.initial.self NotYet l.self

abbrev pub decreases-loop-step : goal.decreases-loop-step
decreases-loop-step l = steps_left (votes_of l.game) l.self
