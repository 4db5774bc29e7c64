use Rattle.council_report.proofs.Imports.{◌++◌, take, flat_map}
use Rattle.std.proofs.Common.{◌-◌, codes, drop}
use Rattle.council_report.specs.{Inner.Ready.AppendsText, Lines.rules_of_way}
use Rattle.council_report.proofs.heading.push_more_ways.Given as goal

abbrev pub invariant-loop-way : goal.invariant-loop-way
invariant-loop-way l = AppendsText l.initial.out l.out (flat_map (λ way. codes " " ++ rules_of_way way) (take (l.way - 1) (drop 1 l.game.ways)))
