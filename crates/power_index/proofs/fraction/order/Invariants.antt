use Rattle.power_index.proofs.Imports.{◌≡◌, ◌<◌, ◌+◌}
use Rattle.power_index.specs.Fractions.{fraction_cmp, pair_of}
use Rattle.power_index.proofs.fraction.order.Given as goal

abbrev pub invariant-loop-x : goal.invariant-loop-x
invariant-loop-x l = record {
  first : 0 < l.x.bottom;
  second : 0 < l.y.bottom;
  same : fraction_cmp (pair_of l.x) (pair_of l.y) ≡ fraction_cmp (pair_of l.fn.first) (pair_of l.fn.second);
}

abbrev pub decreases-loop-x : goal.decreases-loop-x
decreases-loop-x l = l.x.bottom + l.y.bottom
