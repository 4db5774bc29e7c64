use Rattle.mwc_states.proofs.Imports.{arith, nat_tests, get_or, ℕ, ◌+◌, Choices}
use Rattle.mwc_states.proofs.Worth.{later-part, worth-empty}
use Rattle.std.proofs.lemmas.List.{nil_from_length}
use Rattle.mwc_states.proofs.set_counts.add_with.Goals as goal

pub returns-then-is_empty : goal.returns-then-is_empty
returns-then-is_empty c = λ s lt.
    let none = nil_from_length c.args.counts.now (grind (arith, nat_tests, c.if-is_empty.true, c.is_empty.ensures)) in rw none (omega (arith, worth-empty c.args.links.now.items c.args.choices.now c.args.more s))

pub overflow_mul-sizes : goal.overflow_mul-sizes
overflow_mul-sizes c =
    let none : Choices = record { size = 0; row = 0; count = 0 } in
    let i : ℕ = c.loop-some.some-index in
    let part = later-part c.args.links.now.items c.args.counts.now c.args.more c.args.choices.now i none (omega (arith, c.loop-some-test.true)) in
    let fits = c.requires.fits ((get_or c.args.choices.now i none).size + 1 + c.args.more) c.if-size-lt-SIZES.true in
    rw (c.count_of.ensures, c.link_at.ensures) (omega (arith, part, fits))
