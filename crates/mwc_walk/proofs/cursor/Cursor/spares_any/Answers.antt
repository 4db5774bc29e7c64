use Rattle.mwc_walk.proofs.{Imports.arith}
use Rattle.mwc_walk.proofs.Spared.{tried-more, tried-all, spared-nothing}
use Rattle.mwc_walk.proofs.cursor.Cursor.spares_any.Goals as goal

pub returns-then-spares-clause-some : goal.returns-then-spares-clause-some
returns-then-spares-clause-some c = λ _ excess.
    let last = c.last_place-place.ensures in
    spared-nothing c.requires.is c.args.set.now _ c.args.excess.now c.requires.way last.below (c.loop-rest.invariant.inside _ last.below last.inside)
    (c.spares.ensures.all c.if-spares.true) excess

pub loop-rest-preserved : goal.loop-rest-preserved
loop-rest-preserved c =
    let last = c.last_place-place.ensures in
    rw last.left (tried-more c.loop-rest.invariant _ (omega (arith, c.loop-rest-test.true)) last.below last.inside
    (c.spares.ensures.none c.if-spares.false))

pub returns-clause-none : goal.returns-clause-none
returns-clause-none c = λ _. tried-all c.loop-rest.invariant (omega (arith, c.loop-rest-test.false))
