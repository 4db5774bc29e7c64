use Rattle.council_report.proofs.Imports.{take, flat_map}
use Rattle.council_report.specs.{Inner.Ready.AppendsText, Lines.notation_line}
use Rattle.council_report.proofs.heading.push_each_notation.Given as goal

abbrev pub invariant-loop-rule : goal.invariant-loop-rule
invariant-loop-rule l = AppendsText l.initial.out l.out (flat_map notation_line (take l.rule l.game.rules))
