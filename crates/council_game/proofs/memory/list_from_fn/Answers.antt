use Rattle.std.proofs.Common.{◌∙◌, [], ◌∷◌, ◌++◌, ap, sym, zero-add, map}
use Rattle.std.specs.List.{range_with_len}
use Rattle.std.proofs.lemmas.List.FromFn.{map-range_with_len_more}
use Rattle.council_game.proofs.memory.list_from_fn.Goals as goal

pub loop-place-preserved : goal.loop-place-preserved
loop-place-preserved g c f own = c.in_ok-push.ensures.items ∙ ap (λ l. l ++ c.made.result ∷ []) (c.loop-place.invariant f own)
    ∙ ap (λ x. map f (range_with_len 0 c.loop-place.place) ++ x ∷ []) (own c.loop-place.place c.made.result c.loop-place-test.true c.made.ensures)
    ∙ sym (map-range_with_len_more f 0 c.loop-place.place c.loop-place.place (zero-add c.loop-place.place))
