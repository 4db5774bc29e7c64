use Rattle.mwc_gather.proofs.Imports.{nat_tests, take_more, list_any-append, or-false, ◌≡◌, ◌+◌, ◌++◌, ◌∷◌, [], List, take, append_assoc}
use Rattle.mwc_gather.proofs.Imports.{arith, Word}
use Rattle.mwc_gather.proofs.Rooms.{runs_out_by}
use Rattle.mwc_gather.proofs.part_builder.PartBuilder.add_row.Goals as goal

pub loop-word-preserved : goal.loop-word-preserved
loop-word-preserved c =
    let at = c.loop-word.word-index in
    let row : List Word = c.args.row.now in
    let word : Word = c.word-item.result in
    let more : take (at + 1) row ≡ take at row ++ word ∷ [] = grind (arith, take_more) in
    grind (arith, nat_tests, append_assoc, list_any-append, or-false, runs_out_by)
