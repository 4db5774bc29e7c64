use Rattle.mwc_gather.proofs.Imports.{◌≡◌, ◌++◌, take}
use Rattle.mwc_gather.proofs.putting.WordByWordPutsRows.put_row.Given as goal

abbrev pub invariant-loop-accepted : goal.invariant-loop-accepted
invariant-loop-accepted g l =
    record {
      same : g.P.PipeIn.identity l.out ≡ g.P.PipeIn.identity l.fn.out;
      accepted : g.P.PipeIn.accepted l.out ≡ g.P.PipeIn.accepted l.fn.out ++ take l.accepted l.words;
      broken : g.P.PipeIn.broken l.out ≡ g.P.PipeIn.broken l.fn.out;
    }
