use Rattle.power_index.proofs.{Imports.arith, Shared.Printed.deegan-packel-is, Shared.Printed.deegan-packel-same}
use Rattle.power_index.proofs.indices.deegan_packel.Goals as goal

pub returns-clause-lowest : goal.returns-clause-lowest
returns-clause-lowest c g list h = deegan-packel-is g list c.args.counts.now c.args.member _ _ c.requires c.weight-sum.ensures.few h
    (rw (← c.weight-sum.ensures.sum, ← c.wide_total.ensures.total, ← c.from.ensures) c.ratio.ensures.lowest)

pub returns-clause-terms : goal.returns-clause-terms
returns-clause-terms c g list some h =
    grind (arith, deegan-packel-same g list c.args.counts.now c.args.member c.requires c.weight-sum.ensures.few, h.total)
