use Rattle.mwc_gather.proofs.{Imports.◌≡◌, Imports.◌<◌, Imports.slicing, UnderWay.UnderWay}
use Rattle.mwc_gather.proofs.send.send_slice_in_rows.Given as goal

abbrev pub invariant-loop-coalition : goal.invariant-loop-coalition
invariant-loop-coalition g l =
    record {
      same : g.P.PipeIn.identity l.out ≡ g.P.PipeIn.identity l.fn.out;
      broken : g.P.PipeIn.broken l.out ≡ g.P.PipeIn.broken l.fn.out;
      some_left : 0 < l.left;
      sent : UnderWay ((slicing l.guarded l.bits).slice l.slice) l.slice l.initial.left l.left (g.P.PipeIn.accepted l.fn.out)
          l.walk.to_come (g.P.PipeIn.accepted l.out) l.buffer;
    }

abbrev pub decreases-loop-coalition : goal.decreases-loop-coalition
decreases-loop-coalition g l = l.left
