use Rattle.std.proofs.Common.{◌≡◌, Bool, Err, List, Ok, Option, Result, ap, false, refl, subst, sym, ℕ}
use Rattle.std.proofs.lemmas.Result.{err_from_is_err_and}
use Rattle.council_game.specs.declared.report_lines.ReportLines.{ReportLines}
use Rattle.council_game.specs.Game.{GameView}
use Rattle.council_game.specs.declared.fault.GameFault.{GameFault}
use Rattle.council_report.specs.Outcome.{Writes}
use Rattle.council_run.specs.Columns.{limit_with, report_of}
use Rattle.council_run.specs.Findings.{columns_of}
use Rattle.council_run.specs.Shared.Finding.{IsNoFinding}
use Rattle.council_run.specs.declared.{columns.Columns.Columns, fault.Cause.Cause}
use Rattle.council_run.proofs.Shared.Outcomes.{is-not-many, stops-found, stops-report}
use Rattle.council_run.specs.Plans.{is_cause_many, lines_of_plan}
use Rattle.council_run.specs.Run.{IsOutcome, Stops}
use Rattle.council_run.proofs.runs.report_game.Goals as goal

pub write-requires : goal.write-requires
write-requires g c = (c.in_ok-found.ensures.finds c.lines_of.result (ap (λ (l : ReportLines). l.list) c.lines_of.ensures)).2

pub returns-in_err-found-clause-outcome : goal.returns-in_err-found-clause-outcome
returns-in_err-found-clause-outcome g c =
    let lines = lines_of_plan c.args.plan c.args.options.now in
    let fault = c.in_err-found.field-0.0 in
    let limit : Option ℕ = limit_with c.args.columns c.args.plan c.args.options.now.most (is_cause_many fault.cause) in
    let Read = λ (answer : Result GameView GameFault). answer ≡ Ok c.args.game.now in
    let Write = λ (text : List ℕ). Writes g.W.Sink.held g.W.Sink.is_write g.W.Sink.is_flush text c.args.writer.now c.args.writer.now in
    let failed = err_from_is_err_and c.from_residual.result c.from_residual.ensures.1 in
    let finds = c.in_err-found.ensures.finds lines refl in
    rw (failed.1, failed.2) (stops-found (report_of c.args.columns lines) limit Read Write (c.args.writer.now ≡ c.args.writer.now)
    c.args.columns c.args.game.now fault.cause fault.written finds.1 refl refl finds.0)

pub returns-in_err-write-clause-outcome : goal.returns-in_err-write-clause-outcome
returns-in_err-write-clause-outcome g c =
    let limit = λ (many : Bool). limit_with c.args.columns c.args.plan c.args.options.now.most many in
    let Read = λ (answer : Result GameView GameFault). answer ≡ Ok c.args.game.now in
    let Write = λ (text : List ℕ). Writes g.W.Sink.held g.W.Sink.is_write g.W.Sink.is_flush text c.args.writer.now c.write.new.writer in
    let Kept = c.write.new.writer ≡ c.args.writer.now in
    let found = c.in_ok-found.ensures.finds c.lines_of.result (ap (λ (l : ReportLines). l.list) c.lines_of.ensures) in
    let why = c.in_err-write.field-0.0 in
    let failed = err_from_is_err_and c.from_residual-in_err-write.result c.from_residual-in_err-write.ensures.1 in
    let fault = failed.0 in
    let stops = subst (λ (k : Columns). Stops (report_of k c.lines_of.result) (limit false) Read Write Kept fault.cause fault.written) found.1
    (stops-report (report_of (columns_of c.in_ok-found.found) c.lines_of.result) (limit false) Read Write Kept c.args.game.now
    why fault failed.2.0 failed.2.1 (λ h. h) refl found.0 c.in_err-write.ensures) in
    let not-many = is-not-many why fault failed.2.0 failed.2.1 in
    let limited = subst (λ (many : Bool). Stops (report_of c.args.columns c.lines_of.result) (limit many) Read Write Kept fault.cause fault.written)
    (sym not-many) stops in
    rw failed.1 (subst (λ (lines : ReportLines). IsOutcome (report_of c.args.columns lines) (limit (is_cause_many fault.cause)) Read Write Kept (Err fault))
    c.lines_of.ensures limited)

pub returns-clause-outcome : goal.returns-clause-outcome
returns-clause-outcome g c =
    let limit : Option ℕ = limit_with c.args.columns c.args.plan c.args.options.now.most false in
    let Read = λ (answer : Result GameView GameFault). answer ≡ Ok c.args.game.now in
    let Write = λ (text : List ℕ). Writes g.W.Sink.held g.W.Sink.is_write g.W.Sink.is_flush text c.args.writer.now c.write.new.writer in
    let found = c.in_ok-found.ensures.finds c.lines_of.result (ap (λ (l : ReportLines). l.list) c.lines_of.ensures) in
    let wrote = subst (λ (k : Columns). Write (report_of k c.lines_of.result c.args.game.now) (Ok c.in_ok-write.field-0)) found.1
    c.in_ok-write.ensures in
    subst (λ (lines : ReportLines). IsOutcome (report_of c.args.columns lines) limit Read Write (c.write.new.writer ≡ c.args.writer.now)
    (Ok c.in_ok-write.field-0)) c.lines_of.ensures (c.args.game.now, refl, found.0, wrote)

pub returns-in_err-found-clause-states : goal.returns-in_err-found-clause-states
returns-in_err-found-clause-states g c =
    let fault = c.in_err-found.field-0.0 in
    let limit : Option ℕ = limit_with c.args.columns c.args.plan c.args.options.now.most (is_cause_many fault.cause) in
    let failed = err_from_is_err_and c.from_residual.result c.from_residual.ensures.1 in
    let finds = c.in_err-found.ensures.finds (lines_of_plan c.args.plan c.args.options.now) refl in
    rw (failed.1, failed.2) (λ is. subst (λ (why : Cause). IsNoFinding c.args.columns limit c.args.game.now why) is finds.0)
