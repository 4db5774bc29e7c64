use Rattle.mwc_gather.proofs.Imports.{◌≡◌, ◌≤◌, All, IsFresh, slices_of, AllOf, views_of}
use Rattle.std.proofs.Common.{vec_len, vec_capacity}
use Rattle.mwc_gather.proofs.gathering.open_all.Given as goal

abbrev pub invariant-loop-worker : goal.invariant-loop-worker
invariant-loop-worker g l =
    (vec_len l.handles ≡ l.worker) × (l.workers ≤ vec_capacity l.handles) × AllOf (slices_of l.job) l.job.most l.handles.items
    × All IsFresh (views_of l.handles.items)
