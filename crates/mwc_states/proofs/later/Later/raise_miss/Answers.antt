use Rattle.mwc_states.proofs.{Imports.nat_tests, Imports.arith, Imports.weigh, Meeting.meets-most, Meeting.meets-through}
use Rattle.mwc_states.proofs.later.Later.raise_miss.Goals as goal

pub returns-then-meets : goal.returns-then-meets
returns-then-meets c set met = grind (arith, nat_tests, meets-through, weigh)

pub returns-else-meets : goal.returns-else-meets
returns-else-meets c set met = grind (arith, nat_tests, meets-most, weigh)
