use Rattle.council_report.proofs.Imports.{◌≡◌, ◌-◌, IsLine}
use Rattle.council_report.proofs.shared_line.SharedLine.move_to.Given as goal

-- it is a line of the coalition, as far as it has come
abbrev pub invariant-loop-self : goal.invariant-loop-self
invariant-loop-self l = record {
  line : IsLine l.game l.self;
  coalition : l.self.coalition ≡ l.coalition;
}

abbrev pub decreases-loop-self : goal.decreases-loop-self
decreases-loop-self l = l.last - l.self.end
