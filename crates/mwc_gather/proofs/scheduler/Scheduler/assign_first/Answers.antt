use Rattle.mwc_gather.proofs.Imports.{◌≡◌, ◌<◌, ℕ, length, subst, arith, slices_of, AssignsFirst}
use Rattle.mwc_gather.proofs.Holders.{first_of_place, assigns_start}
use Rattle.mwc_gather.proofs.scheduler.Scheduler.assign_first.Goals as goal

pub loop-i-init : goal.loop-i-init
loop-i-init g c =
    assigns_start {g = slices_of c.args.job.now} c.args.self.now c.args.handles.now c.requires.1 c.requires.2
    c.requires.3

pub loop-i-preserved : goal.loop-i-preserved
loop-i-preserved g c =
    let q = c.loop-i.auto.handles in
    let l : c.loop-i.i < length c.loop-i.handles = omega arith in
    first_of_place {g = slices_of c.args.job.now} c.loop-i.handles c.loop-i.i c.index-handles-i.result
    c.assign_next.new.handle l c.loop-i.invariant
    c.assign_next.ensures.same.0 c.assign_next.ensures.turns

pub returns : goal.returns
returns g c =
    let q : c.loop-i.i ≡ length c.args.handles.now = omega arith in
    let job = c.args.job.now in
    subst (λ (k : ℕ). AssignsFirst (slices_of job) job.most c.args.self.now.stopped c.loop-i.self k c.loop-i.handles) q c.loop-i.invariant
