use Rattle.council_report.proofs.Imports.{arith, common_steps, member_line}
use Rattle.council_report.proofs.count_lines.push_member.Goals as goal

pub returns : goal.returns
unfolding member_line
returns c = grind (arith, common_steps)
