use Rattle.mwc_walk.proofs.Imports.{votes_of, ◌≤◌, ◌+◌, NotYet, SomeSteps}
use Rattle.mwc_walk.proofs.cursor.Cursor.some_steps.Given as goal

abbrev pub invariant-loop : goal.invariant-loop
invariant-loop l = record {
  steps : SomeSteps (votes_of l.game) l.initial.self NotYet l.self;
  few : l.self.visits ≤ l.initial.self.visits + l.counter;
}
