use Rattle.mwc_gather.proofs.Imports.{List, [], ◌∷◌, ◌++◌, append_assoc, ap, sym, ◌∙◌, Word}
use Rattle.mwc_gather.proofs.Rooms.{adds_more}
use Rattle.mwc_gather.proofs.worker_handle.drain.Goals as goal

pub loop-word-preserved : goal.loop-word-preserved
loop-word-preserved c =
    let i = c.loop-word.invariant in
    let done : List Word = i.0 in
    let word : Word = c.in-Some.word in (
      done ++ word ∷ [],
      append_assoc done (word ∷ []) c.next.new.self ∙ ap (λ (w : List Word). done ++ w) (sym c.in-Some.ensures) ∙ i.1,
      adds_more i.2 (rw c.as_slice.ensures at c.add_row-signals.ensures.adds),
    )
