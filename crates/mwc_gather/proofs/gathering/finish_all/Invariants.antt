use Rattle.mwc_gather.proofs.{Finishing.Finishing, Imports.into_iter_items, Imports.slices_of}
use Rattle.mwc_gather.proofs.gathering.finish_all.Given as goal

abbrev pub invariant-loop-handle : goal.invariant-loop-handle
invariant-loop-handle g l =
    Finishing (slices_of l.job) l.job.most l.fn.start l.fn.handles.items (into_iter_items l.handle-iterator) l.met l.parts.items
