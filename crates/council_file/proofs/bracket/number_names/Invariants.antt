use Rattle.std.proofs.Common.{◌≡◌, map, decimal, string_bytes}
use Rattle.std.specs.List.{range_with_len}
use Rattle.council_file.proofs.bracket.number_names.Given as goal

abbrev pub invariant-loop-k : goal.invariant-loop-k
invariant-loop-k l = map string_bytes l.names.items ≡ map decimal (range_with_len 1 l.k)
