use Rattle.mwc_gather.proofs.Imports.{◌+◌, length, arith, Part}
use Rattle.std.proofs.lemmas.List.Sums.{sum_by-take-le, sum_by_more}
use Rattle.mwc_gather.proofs.part.fits.Goals as goal

pub returns-then-len-left-clause-many : goal.returns-then-len-left-clause-many
returns-then-len-left-clause-many c = λ z.
    let part : Part = c.part-item.result in
    let f = λ (p : Part). length p.got.items in
    let a = sum_by_more f c.args.parts.now c.loop-part.part-index part c.loop-part-test.true in
    let b = sum_by-take-le f c.args.parts.now (c.loop-part.part-index + 1) in grind (arith)
