use Rattle.council_report.proofs.Imports.{arith, common_steps}
use Rattle.council_report.specs.Lines.{quota_line}
use Rattle.council_report.proofs.lines.push_quota.Goals as goal

pub returns : goal.returns
unfolding quota_line
returns c = grind (arith, common_steps)
