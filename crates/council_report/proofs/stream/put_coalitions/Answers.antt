use Rattle.council_report.proofs.Imports.{common_steps, arith, coalition_line}
use Rattle.council_report.proofs.{Bounds.coalition-fits, Telling.line-counts, Telling.puts-line}
use Rattle.council_report.proofs.Turns.{IsNext, turn-told, turn-counts}
use Rattle.council_report.specs.Sending.{Sending}
use Rattle.council_report.proofs.stream.put_coalitions.Goals as goal

pub settle-requires : goal.settle-requires
settle-requires g c =
    let S = Sending g.W.Sink.is_write g.W.Sink.is_flush in
    let next : IsNext c.args.list.now c.loop-coalition.coalition-index c.coalition-item.result = grind (arith, common_steps) in
    line-counts _ c.loop-coalition.block c.push.new.out c.loop-coalition.invariant.keeps.ready (rw c.move_to.ensures.coalition at c.push.ensures)
    (coalition-fits c.args.game.now c.loop-coalition.invariant.line.is.game c.coalition-item.result)
    (turn-counts S (coalition_line c.args.game.now) next c.loop-coalition.invariant.keeps.tells c.requires.counted)

pub loop-coalition-preserved : goal.loop-coalition-preserved
loop-coalition-preserved g c =
    let S = Sending g.W.Sink.is_write g.W.Sink.is_flush in
    let next : IsNext c.args.list.now c.loop-coalition.coalition-index c.coalition-item.result = grind (arith, common_steps) in
    let puts = puts-line S _ c.loop-coalition.writer c.settle.new.writer c.loop-coalition.block c.push.new.out c.settle.new.self c.loop-coalition.invariant.keeps.ready
    (rw c.move_to.ensures.coalition at c.push.ensures)
    (coalition-fits c.args.game.now c.loop-coalition.invariant.line.is.game c.coalition-item.result) c.settle.ensures.tells c.settle.ensures.ready in
    record {
      keeps = record {
        tells = turn-told S (coalition_line c.args.game.now) next c.loop-coalition.invariant.keeps.tells puts.tells;
        ready = puts.ready;
      };
      line = grind (arith, common_steps);
    }
