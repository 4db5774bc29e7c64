use Rattle.council_report.proofs.{Bounds.member-fits, Imports.arith, Imports.line_of_member, Imports.length}
use Rattle.council_report.proofs.Telling.{line-counts, puts-line}
use Rattle.council_report.proofs.Turns.{next-number, numbers-told, turn-told, turn-counts}
use Rattle.council_report.specs.Sending.{Sending}
use Rattle.council_report.proofs.stream.put_members.Goals as goal

pub settle-requires : goal.settle-requires
settle-requires g c =
    let S = Sending g.W.Sink.is_write g.W.Sink.is_flush in
    let next = next-number 0 (length c.args.numbers.now.game.now.names) c.loop-member.member c.loop-member.member (omega arith) (omega arith) in
    line-counts _ c.loop-member.block c.push_member.new.out c.loop-member.invariant.ready c.push_member.ensures
    (member-fits c.args.numbers.now c.loop-member.member (omega arith))
    (turn-counts S (line_of_member c.args.numbers.now) next c.loop-member.invariant.tells c.requires.counted)

pub loop-member-preserved : goal.loop-member-preserved
loop-member-preserved g c =
    let S = Sending g.W.Sink.is_write g.W.Sink.is_flush in
    let next = next-number 0 (length c.args.numbers.now.game.now.names) c.loop-member.member c.loop-member.member (omega arith) (omega arith) in
    let puts = puts-line S _ c.loop-member.writer c.settle.new.writer c.loop-member.block c.push_member.new.out c.settle.new.self c.loop-member.invariant.ready
    c.push_member.ensures (member-fits c.args.numbers.now c.loop-member.member (omega arith)) c.settle.ensures.tells c.settle.ensures.ready in
    record { tells = turn-told S (line_of_member c.args.numbers.now) next c.loop-member.invariant.tells puts.tells; ready = puts.ready }

pub returns : goal.returns
returns g c =
    let S = Sending g.W.Sink.is_write g.W.Sink.is_flush in
    record {
      tells = numbers-told S (line_of_member c.args.numbers.now) 0 (length c.args.numbers.now.game.now.names) c.loop-member.member (omega arith)
          c.loop-member.invariant.tells;
      ready = c.loop-member.invariant.ready;
    }
