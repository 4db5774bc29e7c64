use Rattle.mwc_gather.proofs.Imports.{◌≡◌, SendsFirst}
use Rattle.mwc_gather.proofs.send.send.Given as goal

abbrev pub invariant-loop : goal.invariant-loop
invariant-loop g l =
    record {
      same : g.P.PipeIn.identity l.out ≡ g.P.PipeIn.identity l.initial.out;
      first : SendsFirst (g.P.PipeIn.accepted l.initial.out) l.words (g.P.PipeIn.accepted l.out) l.rest;
      broken : g.P.PipeIn.broken l.out ≡ g.P.PipeIn.broken l.initial.out;
    }
