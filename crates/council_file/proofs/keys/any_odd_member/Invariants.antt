use Rattle.std.proofs.Common.{◌≡◌, map, take, false}
use Rattle.std.specs.{List.list_any, Option.option_map_or}
use Rattle.toml.specs.{Data.as_table, View.view}
use Rattle.council_file.specs.File.{has_other_key, member_keys}
use Rattle.council_file.proofs.keys.any_odd_member.Given as goal

abbrev pub invariant-loop-member : goal.invariant-loop-member
invariant-loop-member l = list_any (λ d. option_map_or (has_other_key member_keys) (as_table d) false) (map view (take l.member-index l.members)) ≡ false
