use Rattle.std.proofs.Common.{◌≡◌, All, arith, subst, sym}
use Rattle.std.proofs.lemmas.List.Elements.{All-push}
use Rattle.mwc_tally.proofs.threads.start_all.Goals as goal

pub loop-worker-preserved : goal.loop-worker-preserved
loop-worker-preserved g c = record {
  count = omega arith;
  room = omega arith;
  given = subst (All (λ t. t.promise ≡ c.args.queue.now.slices)) (sym c.push_reserved.ensures.items)
      (All-push (λ t. t.promise ≡ c.args.queue.now.slices) c.loop-worker.threads.items c.in-Some.thread c.loop-worker.invariant.given c.in-Some.ensures);
}
