use Rattle.std.proofs.{Common.below_more, lemmas.Bool.both_ways}
use Rattle.examples.proofs.tables.most_powerful.Goals as goal

pub loop-i-preserved : goal.loop-i-preserved
loop-i-preserved c = below_more _ _ c.loop-i.invariant (λ all. both_ways _ c.if-is_above_others.false (c.is_above_others.ensures.1 all))
