use Rattle.council_report.proofs.SharedLines.{line-kept, no_subtotal}
use Rattle.council_report.proofs.shared_line.SharedLine.keep.Goals as goal

pub returns-clause-line : goal.returns-clause-line
returns-clause-line c =
    line-kept c.args.game.now c.args.self.now c.truncate.new.self c.args.shared c.args.coalition no_subtotal c.requires.line
    c.requires.within c.requires.same c.truncate.ensures.items c.truncate.ensures.capacity
