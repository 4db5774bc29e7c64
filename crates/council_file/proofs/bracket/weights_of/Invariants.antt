use Rattle.std.proofs.Common.{length}
use Rattle.council_file.proofs.Weights.{Reads}
use Rattle.council_file.proofs.bracket.weights_of.Given as goal

abbrev pub invariant-loop-weight : goal.invariant-loop-weight
invariant-loop-weight l = Reads l.initial.scanner l.weights.items l.scanner

abbrev pub decreases-loop-weight : goal.decreases-loop-weight
decreases-loop-weight l = length l.scanner
