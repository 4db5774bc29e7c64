use Rattle.mwc_walk.proofs.Imports.{arith, [], List, length-set, votes_of, IsRow}
use Rattle.mwc_walk.proofs.Rules.{set-keeps}
use Rattle.mwc_walk.specs.declared.price.Prices.{Prices}
use Rattle.mwc_walk.proofs.price.PriceTable.new.Goals as goal

pub loop-rule-preserved : goal.loop-rule-preserved
loop-rule-preserved c = record {
  long = omega (arith, length-set c.loop-rule.by c.loop-rule.rule c.row.result);
  made = λ i below.
      set-keeps (λ k (row : List Prices). IsRow (votes_of c.args.game.now) k row) c.loop-rule.by c.loop-rule.rule i c.row.result []
      (omega (arith, c.rules-rule-end.ensures.votes)) c.row.ensures (λ other. c.loop-rule.invariant.made i (omega (arith, below, other)));
}
