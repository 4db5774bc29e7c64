use Rattle.std.proofs.Common.{◌≡◌, map, take, true, is_some}
use Rattle.std.specs.List.{list_all}
use Rattle.toml.specs.{Data.as_integer, View.view}
use Rattle.council_file.proofs.rules.are_quotas.Given as goal

abbrev pub invariant-loop-value : goal.invariant-loop-value
invariant-loop-value l = list_all (λ d. is_some (as_integer d)) (map view (take l.value-index l.values)) ≡ true
