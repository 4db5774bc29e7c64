use Rattle.std.proofs.Common.{◌∙◌, ◌++◌, List, length, arith, ap, sym, length-append, inl, inr}
use Rattle.std.proofs.lemmas.Bool.{cases_lt}
use Rattle.mwc_pipe.proofs.Counting.{puts_answered, row_front}
use Rattle.mwc_pipe.specs.RingViews.{RingInView}
use Rattle.mwc_pipe.specs.declared.word.Word.{Word}
use Rattle.mwc_pipe.proofs.ring_in.RingIn.put_some.Goals as goal

pub returns-clause-count : goal.returns-clause-count
returns-clause-count c =
    let parts = row_front c.min-most.result c.args.words.now c.push_partial_slice.result.0.now c.push_partial_slice.result.1.now c.push_partial_slice.ensures.parts in
    omega (arith, parts.1)

pub returns-clause-accepted : goal.returns-clause-accepted
returns-clause-accepted c =
    let put : List Word = c.push_partial_slice.result.0.now in
    let parts = row_front c.min-most.result c.args.words.now put c.push_partial_slice.result.1.now c.push_partial_slice.ensures.parts in
    c.push_partial_slice.ensures.sent ∙ ap (λ (v : RingInView). v.accepted ++ put) c.self.view_is
    ∙ ap (λ (l : List Word). c.args.self.now.accepted ++ l) (sym parts.0)

pub returns-clause-replies : goal.returns-clause-replies
returns-clause-replies c =
    let parts = row_front c.min-most.result c.args.words.now c.push_partial_slice.result.0.now c.push_partial_slice.result.1.now c.push_partial_slice.ensures.parts in
    let long = simp length-append at (ap length c.push_partial_slice.ensures.sent) in
    let accepted = ap (λ (v : RingInView). length v.accepted) c.self.view_is in
    let capacity = ap (λ (v : RingInView). v.capacity) c.self.view_is in
    λ past seen. puts_answered _ _ _ past _ _ seen
    (omega (arith, parts.1))
    (omega (arith, parts.1, long, accepted, capacity))
    (λ short. elim (cases_lt 0 (length c.push_partial_slice.result.1.now)) [
      | inl left ↦ (let none = c.push_partial_slice.ensures.most left in omega (arith, parts.1, long, accepted, capacity, none))
      | inr all ↦ omega (arith, parts.1, long, accepted, capacity)
    ])
