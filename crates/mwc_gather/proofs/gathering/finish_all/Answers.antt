use Rattle.mwc_gather.proofs.Imports.{ap, Some, refl, rules, arith, common_steps, into_iter_items, Memory, slices_of}
use Rattle.mwc_gather.proofs.Finishing.{memory_ends, none_joined, fault_met, part_kept, all_complete}
use Rattle.mwc_gather.proofs.gathering.finish_all.Goals as goal

pub loop-handle-init : goal.loop-handle-init
loop-handle-init g c = none_joined (search rules) (search rules) c.requires.assigned.1 c.requires.start

pub loop-handle-preserved : goal.loop-handle-preserved
loop-handle-preserved g c =
    fault_met c.in-Some.handle c.in-Err.why c.loop-handle.invariant c.in-Some.ensures.steps.0 (ap Some c.first_of-in-Err.ensures)
    (c.in-Err.ensures.ends (slices_of c.args.job.now) c.args.job.now.most)

pub loop-handle-preserved-then-is_err : goal.loop-handle-preserved-then-is_err
loop-handle-preserved-then-is_err g c =
    let job = c.args.job.now in
    fault_met c.in-Some.handle Memory c.loop-handle.invariant c.in-Some.ensures.steps.0 (ap Some c.first_of.ensures)
    (λ own. memory_ends (slices_of job) job.most c.in-Some.handle)

pub loop-handle-preserved-else-is_err : goal.loop-handle-preserved-else-is_err
loop-handle-preserved-else-is_err g c =
    let job = c.args.job.now in
    part_kept c.in-Some.handle c.in-Ok.part c.loop-handle.invariant c.in-Some.ensures.steps.0
    (search rules) refl (c.in-Ok.ensures.part (slices_of job) job.most) (c.in-Ok.ensures.ends (slices_of job) job.most)

pub returns-in-None-met-clause-parts : goal.returns-in-None-met-clause-parts
returns-in-None-met-clause-parts g c = λ some.
    all_complete c.args.handles.items (into_iter_items c.loop-handle.handle-iterator) c.loop-handle.parts.items c.loop-handle.invariant
    (grind (arith, common_steps)) (search rules) c.requires.assigned.1 (omega arith) some
