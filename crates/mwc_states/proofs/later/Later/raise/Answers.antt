use Rattle.mwc_states.proofs.Imports.{◌∙◌, arith, ap, sym, subst, get_or, weigh, AreSums}
use Rattle.mwc_states.proofs.Meeting.{meets-raised_same}
use Rattle.mwc_states.proofs.later.Later.raise.Goals as goal

pub loop-sums-preserved : goal.loop-sums-preserved
loop-sums-preserved c = record {
  above = λ r. omega (arith, c.loop-sums.invariant.above r, c.raise-raised.ensures.above r);
  met = λ set met. c.raise-raised.ensures.met c.args.self.now.members.now set
      (subst (λ list. AreSums list.rule c.args.self.now.members.now list.rows.items)
      (sym (c.sums-item.is ∙ ap (λ lists. get_or lists c.loop-sums.sums-index c.sums-item.result) c.deref-sums-items.ensures.value))
      (c.args.self.now.are_sums c.loop-sums.sums-index c.sums-item.result (omega (arith, c.deref-sums-items.ensures.len))))
      met (c.loop-sums.invariant.met set met);
}

pub returns : goal.returns
returns c set = meets-raised_same (weigh c.args.self.now.members.now set) c.args.row.now c.loop-sums.raised c.loop-sums.invariant.above (c.loop-sums.invariant.met set)
