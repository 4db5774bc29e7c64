use Rattle.council_game.specs.Lists.{joined}
use Rattle.council_report.proofs.Imports.{◌+◌, ◌++◌, ◌∙◌, List, [], arith, coalition_lines, lines_of, ℕ}
use Rattle.council_report.specs.{Inner.Lines.lines_of_members, Inner.Lines.lines_of_sizes, Sending.Sending}
use Rattle.council_report.proofs.Bounds.{lines-count}
use Rattle.council_report.proofs.Telling.{tells-then}
use Rattle.council_report.proofs.Wholes.{after-none, written-whole}
use Rattle.council_report.proofs.report.write_numbers.Goals as goal

pub settle-requires : goal.settle-requires
settle-requires g c =
    let bytes = c.push_heading.new.out.bytes in
    omega (arith, bytes.ok, bytes.small, c.push_heading.ensures.written, c.in_ok-block.ensures.empty.1)

pub put_pieces-requires-clause-counted : goal.put_pieces-requires-clause-counted
put_pieces-requires-clause-counted g c =
    let bytes = c.push_heading.new.out.bytes in
    let few = lines-count c.args.shown c.args.numbers.now (joined c.args.pieces.now) (bytes.len + c.push_heading.new.out.written) c.requires.few
    (omega (arith, bytes.ok, bytes.small, c.push_heading.ensures.written, c.in_ok-block.ensures.empty.1)) in
    omega (arith, few, bytes.ok, c.settle.ensures.tells.count)

pub put_sizes-requires-clause-counted : goal.put_sizes-requires-clause-counted
put_sizes-requires-clause-counted g c =
    let bytes = c.push_heading.new.out.bytes in
    let few = lines-count c.args.shown c.args.numbers.now (joined c.args.pieces.now) (bytes.len + c.push_heading.new.out.written) c.requires.few
    (omega (arith, bytes.ok, bytes.small, c.push_heading.ensures.written, c.in_ok-block.ensures.empty.1)) in
    omega (arith, few, bytes.ok, c.settle.ensures.tells.count, c.put_pieces.ensures.tells.count)

pub put_members-requires-clause-counted : goal.put_members-requires-clause-counted
put_members-requires-clause-counted g c =
    let bytes = c.push_heading.new.out.bytes in
    let few = lines-count c.args.shown c.args.numbers.now (joined c.args.pieces.now) (bytes.len + c.push_heading.new.out.written) c.requires.few
    (omega (arith, bytes.ok, bytes.small, c.push_heading.ensures.written, c.in_ok-block.ensures.empty.1)) in
    omega (arith, few, bytes.ok, c.settle.ensures.tells.count, c.put_pieces.ensures.tells.count, c.put_sizes.ensures.tells.count)

pub finish-requires : goal.finish-requires
finish-requires g c =
    let bytes = c.push_heading.new.out.bytes in
    let few = lines-count c.args.shown c.args.numbers.now (joined c.args.pieces.now) (bytes.len + c.push_heading.new.out.written) c.requires.few
    (omega (arith, bytes.ok, bytes.small, c.push_heading.ensures.written, c.in_ok-block.ensures.empty.1)) in
    omega (arith, few, bytes.ok, c.settle.ensures.tells.count, c.put_pieces.ensures.tells.count, c.put_sizes.ensures.tells.count, c.put_members.ensures.tells.count)

pub returns : goal.returns
unfolding lines_of
returns g c =
    let S = Sending g.W.Sink.is_write g.W.Sink.is_flush in
    let coalitions : List ℕ = coalition_lines c.args.shown c.args.numbers.now.game.now (joined c.args.pieces.now) in
    let sizes : List ℕ = lines_of_sizes c.args.shown c.args.numbers.now in
    let listed = tells-then S _ _ _ [] coalitions c.settle.ensures.tells c.put_pieces.ensures.tells in
    let sized = tells-then S _ _ _ coalitions sizes listed c.put_sizes.ensures.tells in
    let told = tells-then S _ _ _ (coalitions ++ sizes) (lines_of_members c.args.numbers.now) sized c.put_members.ensures.tells in
    written-whole g.W.Sink.held g.W.Sink.is_write g.W.Sink.is_flush g.met.W.Sink.writes g.met.W.Sink.flushes c.args.writer.now _
    c.push_heading.new.out _ _ _ c.finish.result (c.push_heading.ensures.written ∙ c.in_ok-block.ensures.empty.1)
    (c.push_heading.ensures.stopped ∙ c.in_ok-block.ensures.empty.2)
    (after-none (c.push_heading.ensures.items c.if-block.false) c.in_ok-block.ensures.empty.0) told c.finish.ensures
