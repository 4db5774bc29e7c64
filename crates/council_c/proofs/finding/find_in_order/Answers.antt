use Rattle.std.proofs.Common.{◌≡◌, Ok, Option, subst, sym}
use Rattle.std.proofs.lemmas.Result.{err_from_is_err_and}
use Rattle.council_run.specs.declared.columns.Columns.TheVariants as columns
use Rattle.council_game.specs.declared.report_lines.ReportLines.{ReportLines}
use Rattle.council_run.specs.declared.columns.Columns.{Columns}
use Rattle.council_run.specs.declared.findings.Findings.{Findings}
use Rattle.council_c.specs.Asked.{limit_in}
use Rattle.council_c.specs.Inner.Calls.{MayFindAll}
use Rattle.council_c.proofs.Findings.{finds-both, finds-minimal, finds-nothing}
use Rattle.council_c.proofs.finding.find_in_order.Goals as goal

pub returns-in_err-found-in-Minimal-clause-finds : goal.returns-in_err-found-in-Minimal-clause-finds
returns-in_err-found-in-Minimal-clause-finds c = rw c.in-Minimal.is (λ lines same.
    let call = c.args.call.now in
    let limit = limit_in columns.Minimal call.tally call.options.most in
    let failed = err_from_is_err_and c.from_residual.result c.from_residual.ensures.1 in
    rw (failed.1, failed.2) (finds-nothing limit lines call.visits c.args.game.now columns.Minimal c.in_err-found-in-Minimal.field-0.0
    (c.in_err-found-in-Minimal.ensures.finds lines same)))

pub returns-in_err-found-in-Both-clause-finds : goal.returns-in_err-found-in-Both-clause-finds
returns-in_err-found-in-Both-clause-finds c = rw c.in-Both.is (λ lines same.
    let call = c.args.call.now in
    let limit = limit_in columns.Minimal call.tally call.options.most in
    let failed = err_from_is_err_and c.from_residual-in_err-found-in-Both.result c.from_residual-in_err-found-in-Both.ensures.1 in
    rw (failed.1, failed.2) (finds-nothing limit lines call.visits c.args.game.now columns.Both c.in_err-found-in-Both.field-0.0
    (c.in_err-found-in-Both.ensures.finds lines same)))

pub returns-in_ok-found-in-Minimal-clause-finds : goal.returns-in_ok-found-in-Minimal-clause-finds
returns-in_ok-found-in-Minimal-clause-finds c =
    let call = c.args.call.now in
    let game = c.args.game.now in
    let limit = limit_in columns.Minimal call.tally call.options.most in
    subst (λ (k : Columns). (lines : ReportLines) → lines.list ≡ call.options.list
    → MayFindAll k (limit_in k call.tally call.options.most) lines call.visits game (Ok c.minimal_of.result)) (sym c.in-Minimal.is)
    (λ lines same. subst (λ (o : Option Findings). MayFindAll columns.Minimal limit lines call.visits game (Ok o)) (sym c.minimal_of.ensures)
    (finds-minimal limit lines call.visits game c.in_ok-found-in-Minimal.found (c.in_ok-found-in-Minimal.ensures.finds lines same)))

pub returns-in_ok-found-in-Both-clause-finds : goal.returns-in_ok-found-in-Both-clause-finds
returns-in_ok-found-in-Both-clause-finds c =
    let call = c.args.call.now in
    let game = c.args.game.now in
    let swings = c.in_ok-swings-in-Both.swings in
    let limit = limit_in columns.Minimal call.tally call.options.most in
    subst (λ (k : Columns). (lines : ReportLines) → lines.list ≡ call.options.list
    → MayFindAll k (limit_in k call.tally call.options.most) lines call.visits game (Ok c.both_of.result)) (sym c.in-Both.is)
    (λ lines same. subst (λ (o : Option Findings). MayFindAll columns.Both limit lines call.visits game (Ok o)) (sym c.both_of.ensures)
    (finds-both limit lines call.visits game swings c.in_ok-found-in-Both.found
    (c.choose_game.ensures.winning swings c.in_ok-swings-in-Both.ensures.counts) (c.in_ok-found-in-Both.ensures.finds lines same)))
