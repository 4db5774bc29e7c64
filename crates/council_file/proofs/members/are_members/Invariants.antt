use Rattle.std.proofs.Common.{◌≡◌, map, take, true, is_some}
use Rattle.std.specs.List.{list_all}
use Rattle.toml.specs.{Data.as_table, View.view}
use Rattle.council_file.proofs.members.are_members.Given as goal

abbrev pub invariant-loop-value : goal.invariant-loop-value
invariant-loop-value l = list_all (λ d. is_some (as_table d)) (map view (take l.value-index l.values)) ≡ true
