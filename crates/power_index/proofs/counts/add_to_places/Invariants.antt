use Rattle.power_index.proofs.Walks.{Walked}
use Rattle.power_index.proofs.counts.add_to_places.Given as goal

abbrev pub invariant-loop-rest : goal.invariant-loop-rest
invariant-loop-rest l = Walked l.members l.fn.coalition l.size l.fn.by_place l.by_place l.rest

abbrev pub decreases-loop-rest : goal.decreases-loop-rest
decreases-loop-rest l = l.rest
