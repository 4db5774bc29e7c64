use Rattle.mwc_gather.proofs.Imports.{common_steps, nat_tests, List, length, ap, arith, Slicing, sum_by, Part, votes_of, slices-joined}
use Rattle.mwc_gather.proofs.Imports.{slices_of}
use Rattle.mwc_gather.proofs.{Ends.complete_sum, Ends.end_increases, Wholes.all_total_is, Wholes.all_pieces, Wholes.assigned_each_once}
use Rattle.mwc_gather.proofs.gathering.combine_parts.Goals as goal

pub returns-then-not-fits-clause-answers : goal.returns-then-not-fits-clause-answers
returns-then-not-fits-clause-answers g c =
    let job = c.args.job.now in
    let sum = complete_sum c.requires in
    let all = all_total_is job.guarded job.bits job.bits_fit.0 job.bits_fit.1 in grind (arith, nat_tests, common_steps)

pub invariant_of-result : goal.invariant_of-result
invariant_of-result g c = grind (arith, assigned_each_once)

pub returns-clause-answers : goal.returns-clause-answers
returns-clause-answers g c =
    let job = c.args.job.now in
    let complete = c.requires in
    let game : Slicing = slices_of job in
    let parts : List Part = c.args.parts.items in
    let sum = complete_sum complete in
    let all = all_total_is job.guarded job.bits job.bits_fit.0 job.bits_fit.1 in
    let items = ap (sum_by (λ (p : Part). length p.got.items)) c.as_slice.ensures.value in (
      record {
        a_part_each = complete.a_part_each;
        slices = c.slice_count.ensures;
        ascend = end_increases parts complete.assigned;
        pieces = all_pieces game parts complete.are_parts;
        begins = complete.begins;
        few = omega arith;
        whole = rw c.slice_count.ensures (slices-joined (votes_of job.guarded) job.bits job.bits_fit.0 job.bits_fit.1);
      },
      λ e. cc,
    )
