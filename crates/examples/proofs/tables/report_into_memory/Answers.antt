use Rattle.std.proofs.Common.{◌∙◌, List, ap, ℕ}
use Rattle.council_report.specs.Report.{report_over}
use Rattle.examples.proofs.tables.report_into_memory.Goals as goal

pub returns-clause-report : goal.returns-clause-report
returns-clause-report c =
    let wrote = rw c.new-bytes.ensures.items at c.in_ok-write_report.ensures.1 in
    let listed = rw c.in-Some.is at c.in_ok-list.ensures.all in
    let same = c.deref.ensures.value ∙ listed.all in
    wrote ∙ ap (λ (l : List ℕ). report_over c.args.shown c.args.game.now l) same
