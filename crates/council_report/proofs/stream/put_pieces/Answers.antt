use Rattle.std.proofs.lemmas.Bool.Decides.{nat_tests}
use Rattle.council_report.proofs.Imports.{◌≡◌, ◌<◌, ◌∙◌, ◌^◌, ap, flat_map, common_steps, arith, coalition_line, length, progress_of, subst, take_all, true, KeepsReady}
use Rattle.council_report.proofs.FromCounts.{listed-text}
use Rattle.council_report.proofs.Turns.{IsNext, turn-counts, turn-told}
use Rattle.council_report.specs.Sending.{Sending}
use Rattle.power_index.proofs.Shared.Pieces.{pieces-all}
use Rattle.council_report.proofs.stream.put_pieces.Goals as goal

pub put_coalitions-requires-clause-coalitions : goal.put_coalitions-requires-clause-coalitions
put_coalitions-requires-clause-coalitions g c =
    let each = pieces-all (λ m. (0 < m) × (m < 2 ^ length c.args.game.now.names)) (λ p. p.now) c.args.pieces.now c.requires.coalitions in
    grind (arith, common_steps, each)

pub put_coalitions-requires-clause-counted : goal.put_coalitions-requires-clause-counted
put_coalitions-requires-clause-counted g c =
    let S = Sending g.W.Sink.is_write g.W.Sink.is_flush in
    let next : IsNext c.args.pieces.now c.loop-piece.piece-index c.piece-item.result = grind (arith, common_steps) in
    turn-counts S (λ p. flat_map (coalition_line c.args.game.now) p.now) next c.loop-piece.invariant.keeps.tells
    (grind (arith, c.requires.counted, listed-text))

pub loop-piece-preserved : goal.loop-piece-preserved
loop-piece-preserved g c = grind (arith, nat_tests, common_steps, turn-told, flat_map, coalition_line)

pub returns : goal.returns
returns g c =
    let is : c.args.shown.list ≡ true = grind (arith, nat_tests) in
    let all = take_all c.loop-piece.piece-index c.args.pieces.now (omega arith) in
    subst (KeepsReady (Sending g.W.Sink.is_write g.W.Sink.is_flush) (progress_of c.args.writer.now c.args.block.now) c.loop-piece.writer c.loop-piece.block)
    (ap (flat_map (λ p. flat_map (coalition_line c.args.game.now) p.now)) all ∙ listed-text c.args.shown c.args.game.now (λ p. p.now) c.args.pieces.now is)
    c.loop-piece.invariant.keeps
