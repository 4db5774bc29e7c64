use Rattle.mwc_walk.proofs.{Imports.nat_tests, Imports.arith, Remains.walking, Remains.given-whole, Remains.follows-of}
use Rattle.mwc_walk.proofs.walk.Walk.seek.Goals as goal

pub returns-clause-whole : goal.returns-clause-whole
returns-clause-whole c = given-whole (follows-of c.seek.result c.seek.ensures.steps).is

pub returns-clause-seeks : goal.returns-clause-seeks
returns-clause-seeks c = grind (arith, nat_tests, walking)
