use Rattle.mwc_walk.proofs.{Imports.nat_tests, Imports.arith, Imports.inl, Imports.inr, Remains.given-end, Remains.given-next, Remains.given-whole, Remains.follows-of, Remains.given-listed}
use Rattle.mwc_walk.proofs.walk.Walk.next.Goals.{in-Found, in-End}
use Rattle.mwc_walk.proofs.walk.Walk.next.Goals as goal

pub returns-clause-whole : goal.returns-clause-whole
returns-clause-whole c = given-whole (follows-of c.find.result c.find.ensures.steps).is

pub returns-clause-given : goal.returns-clause-given
returns-clause-given c = rw (← c.self.view_is) (elim c.match-find.branch [
  | in-Found w ↦ rw w.result-is (given-next c.self.invariant.cursor (rw w.in-Found.is at c.find.ensures.steps))
  | in-End w ↦ rw w.result-is (elim w.in-End.is [
    | inl end ↦ given-end (rw end at c.find.ensures.steps)
    | inr not_yet ↦ absurd (c.find.ensures.comes not_yet)
  ])
])

pub returns-clause-listed : goal.returns-clause-listed
returns-clause-listed c = grind (arith, nat_tests, given-listed)
