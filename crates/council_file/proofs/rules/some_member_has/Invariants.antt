use Rattle.std.proofs.Common.{◌≡◌, map, take, false, is_some}
use Rattle.std.specs.List.{list_any}
use Rattle.toml.specs.{Data.get, View.view}
use Rattle.council_file.proofs.rules.some_member_has.Given as goal

abbrev pub invariant-loop-member : goal.invariant-loop-member
invariant-loop-member l = list_any (λ d. is_some (get l.key d)) (map view (take l.member-index l.member-items)) ≡ false
