use Rattle.mwc_gather.proofs.Imports.{◌∙◌}
use Rattle.mwc_gather.proofs.Joins.{has_ended, whole_ends, part_answered, end_answered}
use Rattle.mwc_gather.proofs.worker_handle.WorkerHandle.finish.Goals as goal

pub into_part-requires : goal.into_part-requires
into_part-requires g c =
    let d = c.args.self in
    whole_ends (has_ended d c.join-closed.result c.in-Ok-closed.closed c.end-left.result c.end.result c.join-closed.ensures
    c.in-Ok-closed.is (c.end-left.ensures ∙ c.in-Ok.ensures.1) c.end.ensures (c.drain.ensures.0 d.words.taken d.keeps)
    c.drain.ensures.1 c.drain.ensures.2)

pub returns : goal.returns
returns g c =
    let d = c.args.self in
    let ended = has_ended d c.join-closed.result c.in-Ok-closed.closed c.end-left.result c.end.result c.join-closed.ensures
    c.in-Ok-closed.is (c.end-left.ensures ∙ c.in-Ok.ensures.1) c.end.ensures (c.drain.ensures.0 d.words.taken d.keeps)
    c.drain.ensures.1 c.drain.ensures.2 in
    let part = part_answered ended c.into_part.result c.into_part.ensures.part in
    record { part = part; ends = end_answered ended c.into_part.result part c.into_part.ensures.fault }
