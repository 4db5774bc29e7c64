use Rattle.std.proofs.Common.{◌≡◌}
use Rattle.std.specs.Vec.Iter.{into_iter_items}
use Rattle.mwc_tally.proofs.Counting.{first-of, others-of, same-totals}
use Rattle.mwc_tally.proofs.threads.join_all.Goals as goal

pub loop-thread-init : goal.loop-thread-init
loop-thread-init g c =
    let gives : into_iter_items c.into_iter-thread-iterator.result ≡ c.args.threads.items = c.into_iter-thread-iterator.ensures.into_iter_gives.0 in
    record { all = c.requires.totals; rest = rw gives c.requires.threads }

pub add-requires-clause-more : goal.add-requires-clause-more
add-requires-clause-more g c =
    same-totals c.in-Ok.totals (first-of (λ t. t.promise ≡ c.args.slices) c.in-Some.ensures.steps.0 c.loop-thread.invariant.rest) c.in-Ok.ensures
    c.deref.ensures.value c.deref-in-Ok.ensures

pub loop-thread-preserved-in-Ok : goal.loop-thread-preserved-in-Ok
loop-thread-preserved-in-Ok g c = record {
  all = c.add.ensures.counts;
  rest = others-of (λ t. t.promise ≡ c.args.slices) c.in-Some.ensures.steps.0 c.loop-thread.invariant.rest;
}

pub loop-thread-preserved : goal.loop-thread-preserved
loop-thread-preserved g c = record {
  all = c.loop-thread.invariant.all;
  rest = others-of (λ t. t.promise ≡ c.args.slices) c.in-Some.ensures.steps.0 c.loop-thread.invariant.rest;
}
