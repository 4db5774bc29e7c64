use Rattle.std.proofs.Common.{◌≡◌, ap, length, refl, subst}
use Rattle.std.proofs.lemmas.Result.{err_from_is_err_and}
use Rattle.council_game.specs.declared.report_lines.ReportLines.{ReportLines}
use Rattle.council_game.specs.Options.{lines_of as lines_in}
use Rattle.council_run.specs.Columns.{report_of}
use Rattle.council_run.specs.declared.columns.Columns.{Columns}
use Rattle.council_c.specs.Answer.{Shows}
use Rattle.council_c.specs.Asked.{limit_in}
use Rattle.council_c.proofs.Stopping.{stops-on}
use Rattle.council_c.proofs.fill.put_game.Goals as goal

pub put_report-requires : goal.put_report-requires
put_report-requires c =
    (rw c.in-Some.is at (c.in_ok-found.ensures.finds c.lines.result (ap (λ (l : ReportLines). l.list) c.lines.ensures))).2

pub returns-in_err-found-clause-err : goal.returns-in_err-found-clause-err
returns-in_err-found-clause-err c =
    let call = c.args.call.now in
    let failed = err_from_is_err_and c.from_residual-in_err-found.result c.from_residual-in_err-found.ensures.1 in
    let finds = c.in_err-found.ensures.finds (lines_in call.options) refl in
    rw (failed.1, failed.2) (stops-on call.columns (limit_in call.columns call.tally call.options.most) c.args.bytes.now c.in_ok-game.game
    c.in_err-found.field-0.0.cause c.in_ok-game.ensures.game finds.0 c.in_err-found.ensures.many)

pub returns-clause-long : goal.returns-clause-long
returns-clause-long c =
    (c.in_ok-game.game, c.in_ok-game.ensures.game, rw c.in-None.is at (c.in_ok-found.ensures.finds (lines_in c.args.call.now.options) refl))

pub returns-in-Some-clause-ok : goal.returns-in-Some-clause-ok
returns-in-Some-clause-ok c =
    let call = c.args.call.now in
    let lines = lines_in call.options in
    let game = c.in_ok-game.game in
    let finds = rw c.in-Some.is at (c.in_ok-found.ensures.finds lines refl) in
    let long = rw c.lines.ensures at c.in_ok-put_report-in-Some.ensures.length in
    let shown = rw c.lines.ensures at c.in_ok-put_report-in-Some.ensures.text in (
      game,
      c.in_ok-game.ensures.game,
      finds.0,
      subst (λ (k : Columns). c.in_ok-put_report-in-Some.field-0 ≡ length (report_of k lines game)) finds.1 long,
      subst (λ (k : Columns). Shows (report_of k lines game) c.args.room.now c.put_report.new.room) finds.1 shown,
    )
