use Rattle.power_index.proofs.Imports.{◌≡◌, get_or, sum_by, range_with_len}
use Rattle.power_index.proofs.counts.total.Given as goal

abbrev pub invariant-loop-size : goal.invariant-loop-size
invariant-loop-size l = l.total ≡ sum_by (λ s. get_or l.sizes s 0) (range_with_len 0 l.size)
