use Rattle.council_report.proofs.Fields.{fields-then}
use Rattle.council_report.proofs.count_lines.push_fields.Goals as goal

pub returns : goal.returns
returns c = fields-then _ _ _ _ _ c.push_counted.ensures c.push_added.ensures
