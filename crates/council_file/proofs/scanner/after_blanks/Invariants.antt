use Rattle.std.proofs.Common.{◌≡◌, length}
use Rattle.council_file.specs.Bracket.{symbols}
use Rattle.council_file.proofs.scanner.after_blanks.Given as goal

abbrev pub invariant-loop-left : goal.invariant-loop-left
invariant-loop-left l = symbols l.left ≡ symbols l.text

abbrev pub decreases-loop-left : goal.decreases-loop-left
decreases-loop-left l = length l.left
