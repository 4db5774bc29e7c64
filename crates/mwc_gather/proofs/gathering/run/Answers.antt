use Rattle.mwc_gather.proofs.Imports.{ℕ, List, length, drop, subst, ap, sym, arith, Bool, is_some, WorkerHandle, slices_of, AssignsTo}
use Rattle.std.proofs.Common.{take_at, pow_mono}
use Rattle.mwc_gather.proofs.Wholes.{all_total_is}
use Rattle.mwc_gather.proofs.gathering.run.Goals as goal

pub new-requires : goal.new-requires
new-requires g c =
    rw c.slice_count.ensures
    (pow_mono {i = 0} {j = c.args.job.now.bits} (omega arith), pow_mono {i = c.args.job.now.bits} {j = 10} c.args.job.now.bits_fit.0)

pub finish_all-requires-clause-assigned : goal.finish_all-requires-clause-assigned
finish_all-requires-clause-assigned g c =
    let new : List WorkerHandle = c.read_all.new.handles in
    let n : ℕ = c.open_all-handles.result.0.len in
    let v = ap length c.as_mut_slice.ensures.value in
    let au = c.read_all.auto.handles in
    let ok = c.open_all-handles.result.0.ok in
    let all = take_at new (drop (length new) c.open_all-handles.result.0.items) n (omega arith) in
    let job = c.args.job.now in
    let early = c.is_some.ensures in
    let P : Bool → List WorkerHandle → Type 0 = λ b w. AssignsTo (slices_of job) job.most b c.read_all.new.self w in (
      c.read_all.new.self,
      subst (P (is_some c.open_all-handles.result.1)) (sym all) (subst (λ b. P b new) early c.read_all.ensures.assigns),
    )

pub returns-in_err-parts : goal.returns-in_err-parts
returns-in_err-parts g c = grind (arith, all_total_is)

pub returns : goal.returns
returns g c = c.combine_parts.ensures.answers
