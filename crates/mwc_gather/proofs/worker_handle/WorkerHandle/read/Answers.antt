use Rattle.mwc_gather.proofs.Imports.{List, length, take, ap, ◌||◌, Bool, Word}
use Rattle.mwc_gather.proofs.Words.{ahead_more, ended_after, idle_more}
use Rattle.mwc_gather.proofs.worker_handle.WorkerHandle.read.Goals as goal

pub invariant_of-self-clause-one_ahead : goal.invariant_of-self-clause-one_ahead
invariant_of-self-clause-one_ahead c =
    let d = c.args.self.now in
    let row : List Word = take c.take_some-count.result c.take_some-count.new.into in
    let more = c.take_some-count.ensures.taken in
    ahead_more (length d.given.items) d.words.taken row c.take_some-count.new.self.taken more d.one_ahead

pub invariant_of-self-clause-idle_is_done : goal.invariant_of-self-clause-idle_is_done
invariant_of-self-clause-idle_is_done c =
    let d = c.args.self.now in
    let row : List Word = take c.take_some-count.result c.take_some-count.new.into in
    let more = c.take_some-count.ensures.taken in
    let now = ap (λ (b : Bool). d.idle || b) c.add_row-signals.ensures.done in
    idle_more (length d.given.items) d.idle
    (d.idle || c.add_row-signals.result.done) d.words.taken row c.take_some-count.new.self.taken more now d.one_ahead d.idle_is_done

pub invariant_of-self-clause-ended_is_end : goal.invariant_of-self-clause-ended_is_end
invariant_of-self-clause-ended_is_end c =
    let d = c.args.self.now in
    let row : List Word = take c.take_some-count.result c.take_some-count.new.into in
    ended_after d.ended c.add_row-signals.result.end d.words.taken row c.take_some-count.new.self.taken c.take_some-count.ensures.taken d.ended_is_end
    c.add_row-signals.ensures.end
