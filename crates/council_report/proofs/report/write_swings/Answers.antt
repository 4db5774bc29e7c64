use Rattle.council_report.proofs.Imports.{◌++◌, List, ℕ, ap, append-nil, lines_of, subst}
use Rattle.council_report.specs.{Outcome.Writes, Report.game_lines, Report.member_lines}
use Rattle.council_report.specs.SwingLines.{swing_fields, winning_heading}
use Rattle.council_report.proofs.report.write_swings.Goals as goal

pub returns : goal.returns
unfolding lines_of
returns g c =
    let game = c.args.game.now in
    subst (λ t. Writes g.W.Sink.held g.W.Sink.is_write g.W.Sink.is_flush t c.args.writer.now c.write_numbers.new.writer c.write_numbers.result)
    (ap (λ (t : List ℕ). t ++ winning_heading game ++ member_lines game (swing_fields game)) (append-nil (game_lines c.args.shown game)))
    c.write_numbers.ensures
