use Rattle.council_report.proofs.Imports.{length-set, common_steps, nat_tests, arith}
use Rattle.council_report.proofs.{Beginnings.before-out, SharedLines.no_subtotal, SharedLines.subtotals-more}
use Rattle.council_report.proofs.shared_line.SharedLine.pass.Goals as goal

pub returns-clause-line : goal.returns-clause-line
returns-clause-line c = grind (arith, nat_tests, common_steps, no_subtotal, before-out, length-set, subtotals-more)
