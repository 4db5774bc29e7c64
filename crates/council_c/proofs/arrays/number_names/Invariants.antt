use Rattle.std.proofs.Common.{◌≡◌, length, map, string_bytes}
use Rattle.council_file.specs.Bracket.{counted_names}
use Rattle.council_c.proofs.arrays.number_names.Given as goal

abbrev pub invariant-loop-k : goal.invariant-loop-k
invariant-loop-k l = record {
  names : map string_bytes l.names.items ≡ counted_names l.k;
  count : length l.names.items ≡ l.k;
}
