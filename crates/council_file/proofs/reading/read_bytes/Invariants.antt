use Rattle.std.proofs.Common.{◌-◌, ◌≤◌, [], List, ℕ, Result, vec_len}
use Rattle.std.specs.Io.KnownBytes.{Consumes}
use Rattle.council_game.specs.declared.fault.GameFault.{GameFault}
use Rattle.council_file.specs.Reads.{Reading}
use Rattle.council_file.proofs.reading.read_bytes.Given as goal

-- the bytes so far, and however the reading goes on, it is one from the beginning
abbrev pub invariant-loop-bytes : goal.invariant-loop-bytes
invariant-loop-bytes g l = record {
  given : Consumes (g.R.Source.left l.initial.reader) (g.R.Source.left l.reader) l.bytes.items;
  most : vec_len l.bytes ≤ 65537;
  reads : (end : Result (List ℕ) GameFault) (last : g.row.R.Denot) → Reading g.R.Source.is_read l.reader l.bytes.items end last
      → Reading g.R.Source.is_read l.initial.reader [] end last;
}

abbrev pub decreases-loop-bytes : goal.decreases-loop-bytes
decreases-loop-bytes g l = 65537 - vec_len l.bytes
