use Rattle.mwc_gather.proofs.Imports.{List, subst, sym, rules, All, All-push, IsFresh, Slicing, slices_of, WorkerHandle, views_of, IsOf, AllOf}
use Rattle.mwc_gather.proofs.Ends.{fresh_push}
use Rattle.mwc_gather.proofs.gathering.open_all.Goals as goal

pub loop-worker-preserved : goal.loop-worker-preserved
loop-worker-preserved g c =
    let game : Slicing = slices_of c.args.job.now in
    let i = c.loop-worker.invariant in (
      search rules,
      search rules,
      subst (λ (w : List WorkerHandle). AllOf game c.args.job.now.most w) (sym c.push_reserved.ensures.items)
          (All-push (IsOf game c.args.job.now.most) c.loop-worker.handles.items c.in-Ok.handle i.2 c.in-Ok.ensures.order),
      subst (λ (w : List WorkerHandle). All IsFresh (views_of w)) (sym c.push_reserved.ensures.items)
          (fresh_push c.loop-worker.handles.items c.in-Ok.handle i.3 c.in-Ok.ensures.fresh),
    )
