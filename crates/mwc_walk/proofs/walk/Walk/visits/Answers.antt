use Rattle.mwc_walk.proofs.{Imports.arith, Remains.rest-is, Remains.visits-fit, Remains.visits-most}
use Rattle.mwc_walk.proofs.walk.Walk.visits.Goals as goal

pub returns-clause-rest : goal.returns-clause-rest
returns-clause-rest c = rw (← c.self.view_is) (rest-is c.self.invariant.cursor)

pub returns-clause-ever : goal.returns-clause-ever
returns-clause-ever c = rw (← c.self.view_is) (visits-fit c.self.invariant.cursor)

pub returns-clause-most : goal.returns-clause-most
returns-clause-most c = grind (arith, visits-most)
