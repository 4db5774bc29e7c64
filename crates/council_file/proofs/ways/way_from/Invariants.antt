use Rattle.std.proofs.Common.{◌≡◌, map, take}
use Rattle.toml.specs.View.{view}
use Rattle.council_file.specs.File.{rule_number}
use Rattle.council_file.proofs.ways.way_from.Given as goal

abbrev pub invariant-loop-rule : goal.invariant-loop-rule
invariant-loop-rule l = l.rules.items ≡ map rule_number (map view (take l.rule-index l.rule-items))
