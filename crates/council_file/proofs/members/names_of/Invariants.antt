use Rattle.std.proofs.Common.{◌≡◌, map, take, string_bytes}
use Rattle.toml.specs.View.{view}
use Rattle.council_file.specs.File.{name_from}
use Rattle.council_file.proofs.members.names_of.Given as goal

abbrev pub invariant-loop-member : goal.invariant-loop-member
invariant-loop-member l = map string_bytes l.names.items ≡ map name_from (map view (take l.member-index l.members))
