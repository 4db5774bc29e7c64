-- From the join of a worker to its part.
use Rattle.std.proofs.lemmas.Bool.Decides.{nat_tests}
use Rattle.mwc_gather.proofs.Imports.{◌≡◌, ℕ, ◌<◌, false, List, ◌++◌, length, Some, None, ap, subst, sym, ◌∙◌, arith, false≢true, Word, ◌⊎◌}
use Rattle.mwc_gather.proofs.Imports.{Slicing, coalition_count, IsBuilderOf, IsPart, Part, GatherFault, WorkerHandle, IsOf, IsPartOfWorker, CanEndWith}
use Rattle.mwc_gather.proofs.Imports.{flat_map, inl, inr, HasAllWords, ends_from, IsWholeSending, IsCutSending, fault_in_builder, HasEnds}
use Rattle.mwc_gather.proofs.Imports.{PartBuilder}
use Rattle.std.proofs.Common.{Result, Ok, Err, IfOk, IfErr}
use Rattle.mwc_pipe.specs.{RingViews.RingInView, RingViews.RingOutView, RingViews.ClosedView, declared.closed.Unfinished.Unfinished}
use Rattle.mwc_gather.specs.{Inner.WorkerHandles.handle_slicing, Inner.PartBuilders.IsPartOfBuilder, Inner.Fault.fault_in, Sending.HasWorked}
use Rattle.mwc_gather.proofs.Readings.{has_ends}
use Rattle.mwc_gather.proofs.Settles.{settles, kept_by, memory_or_cut, whole_sent, whole_reads, whole_many}

worked_ok : (g : Slicing) (most : ℕ) (out : RingInView) (tasks : RingOutView) (r : Result ClosedView Unfinished × RingOutView)
    (closed : ClosedView) → HasWorked g most out tasks r → r.0 ≡ Ok closed → IsWholeSending g most r.1.taken closed.accepted
    ⊎ IsCutSending g most r.1.taken closed.accepted
worked_ok g most out tasks (Ok c, t) closed w e = grind (arith)
worked_ok g most out tasks (Err x, t) closed w e = cc

-- a builder of all words of a worker
pub record HasEnded (d : WorkerHandle) (builder : PartBuilder) : Type 0 where
  pub whole : HasAllWords (handle_slicing d) d.worker.promise.most d.given.items d.dismissed builder
  pub out_of_memory : builder.out_of_memory ≡ false → d.builder.out_of_memory ≡ false
  pub cut : builder.cut ≡ false → d.builder.cut ≡ false

pub has_ended : {builder : PartBuilder} (d : WorkerHandle) (r : Result ClosedView Unfinished × RingOutView) (closed : ClosedView) (left rest : List Word)
    → HasWorked (handle_slicing d) d.worker.promise.most d.worker.promise.out.value d.worker.promise.tasks.value r → r.0 ≡ Ok closed
    → r.1.taken ++ left ≡ d.tasks.accepted → d.words.taken ++ rest ≡ closed.accepted → IsBuilderOf (d.words.taken ++ rest) builder
    → (builder.out_of_memory ≡ false → d.builder.out_of_memory ≡ false) → (builder.cut ≡ false → d.builder.cut ≡ false) → HasEnded d builder
has_ended {builder} d r closed left rest w e t q keeps out_of_memory cut = grind (arith, nat_tests, worked_ok, settles)

module _ {d : WorkerHandle} {builder : PartBuilder} (h : HasEnded d builder) where
  pub whole_ends : fault_in_builder builder ≡ None → HasEnds d.given.items builder.ends.items (length builder.got.items)
  whole_ends e = has_ends (whole_reads h.whole e)

  -- the answer of its builder: a part, or why there is none
  pub part_answered : (r : Result Part GatherFault) → IfOk r (IsPartOfBuilder builder d.given.items)
      → IfOk r (λ p. (g : Slicing) (most : ℕ) → IsOf g most d → IsPartOfWorker g d p)
  part_answered (Ok p) is = λ g most own.
      let reads = whole_reads h.whole is.whole in
      let kept = kept_by builder.out_of_memory builder.cut is.whole in record {
        slices = is.slices;
        part = subst (λ (x : Slicing). IsPart x p) own.0 (
          is.got ∙ reads.joins ∙ ap (flat_map (handle_slicing d).slice) (sym is.slices),
          is.ends ∙ reads.ends_are ∙ ap (ends_from (handle_slicing d) 0) (sym is.slices),
        );
        well = (h.out_of_memory kept.0, h.cut kept.1);
        dismissed = (whole_sent h.whole is.whole).was_dismissed;
      }
  part_answered (Err why) is = tt

  pub end_answered : (r : Result Part GatherFault) → IfOk r (λ p. (g : Slicing) (most : ℕ) → IsOf g most d → IsPartOfWorker g d p)
      → IfErr r (λ why. fault_in_builder builder ≡ Some why) → (g : Slicing) (most : ℕ) → IsOf g most d → CanEndWith g most d (fault_in r)
  end_answered (Ok p) part none g most own = let of = part g most own in (of.well, of.dismissed)
  end_answered (Err why) none is g most own = elim (memory_or_cut builder.out_of_memory builder.cut why is) [
    | inl out_of_memory ↦ let memory = out_of_memory.1 in (λ z. cc, λ z. memory, λ z. absurd cc)
    | inr cut ↦ let many = cut.2 in (
      λ z. cc,
      λ z. absurd (false≢true (sym (h.out_of_memory cut.0) ∙ z)),
      λ z. subst (λ (x : Slicing). most < coalition_count x d.given.items) own.0
          (subst (λ (n : ℕ). n < coalition_count (handle_slicing d) d.given.items) own.1 (whole_many h.whole cut.1)),
    )
  ]
