use Rattle.mwc_walk.proofs.Imports.{arith}
use Rattle.mwc_walk.proofs.Steps.{enter-spare}
use Rattle.mwc_walk.proofs.cursor.Cursor.enter_ways.Goals.{then-wins+else-not-spares_won, else-wins+else-not-has_nothing_below}
use Rattle.mwc_walk.proofs.cursor.Cursor.enter_ways.Goals as goal

pub returns-clause-steps : goal.returns-clause-steps
returns-clause-steps c =
    let is = c.requires.is in
    elim c.if-wins.branch [
      | then-wins+else-not-spares_won w ↦
          enter-spare is c.requires.fresh (w.spares_won.ensures.some w.if-not-spares_won.false) (λ one. absurd (omega (arith, one, is.rules, c.requires.several)))
      | else-wins+else-not-has_nothing_below w ↦
          enter-spare is c.requires.fresh (w.has_nothing_below.ensures.none w.if-not-has_nothing_below.false) (λ one. absurd (omega (arith, one, is.rules, c.requires.several)))
    ]
