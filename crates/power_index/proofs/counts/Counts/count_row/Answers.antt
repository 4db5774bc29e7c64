use Rattle.power_index.proofs.Imports.{arith}
use Rattle.std.proofs.{Common.append_assoc, Common.take_all, lemmas.List.take_more}
use Rattle.power_index.proofs.counts.Counts.count_row.Goals as goal

pub loop-coalition-preserved : goal.loop-coalition-preserved
loop-coalition-preserved c =
    let before = c.loop-coalition.invariant in
    let more = take_more c.args.row.now c.loop-coalition.coalition-index c.coalition-item.result c.loop-coalition-test.true in
    record {
      game = grind arith;
      total = omega (arith, before.total, c.count.ensures.total);
      tallies = λ g list h. rw (more, ← c.coalition-item.is, ← append_assoc) (c.count.ensures.tallies g _ (before.tallies g list h));
    }

pub returns-clause-tallies : goal.returns-clause-tallies
returns-clause-tallies c g list h =
    rw (take_all c.loop-coalition.coalition-index c.args.row.now c.loop-coalition-test.false) at
    (c.loop-coalition.invariant.tallies g list h)
