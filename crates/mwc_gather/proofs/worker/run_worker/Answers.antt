use Rattle.mwc_gather.proofs.Imports.{◌≡◌, ℕ, ◌+◌, ◌<◌, List, [], ◌∷◌, ◌++◌, length, rules, arith, sym, ◌∙◌, ap, All-push, Word, Open}
use Rattle.mwc_gather.proofs.Imports.{Slicing, slice_words, coalition_count, slices_of, map_push, flat_map_more, sum_by_push}
use Rattle.mwc_gather.proofs.worker.run_worker.Goals as goal

pub loop-preserved : goal.loop-preserved
loop-preserved g c =
    let game : Slicing = slices_of c.args.job.now in
    let j = c.in-Some-next_task.slice in
    let inv = c.loop.invariant.3 in
    let task = c.in-Some-next_task.ensures.taken in
    let sends = c.in-Whole.ensures.sends in
    let count = c.slice_count-slices.ensures in
    let first = task.0 in
    let low : j < game.slices = omega arith in
    let sum = inv.3 in
    let few = sends.1 in
    let rest = sends.2 in
    let more : coalition_count game (inv.0 ++ j ∷ []) ≡ coalition_count game inv.0 + length (game.slice j) =
    sum_by_push (λ i. length (game.slice i)) inv.0 j in (
      search rules,
      search rules,
      omega arith,
      (
        inv.0 ++ j ∷ [],
        task.1 ∙ ap (λ (w : List Word). w ++ Open j ∷ []) inv.1 ∙ sym (map_push Open inv.0 j),
        sends.0 ∙ ap (λ (w : List Word). w ++ slice_words game j) inv.2 ∙ flat_map_more (slice_words game) [] inv.0 j,
        omega arith,
        All-push (λ (i : ℕ). i < game.slices) inv.0 j inv.4 low,
      ),
    )
