use Rattle.mwc_walk.proofs.{Imports.arith, Imports.refl}
use Rattle.mwc_walk.proofs.Steps.{back-end, back-fits, back-to, is-part, odd}
use Rattle.mwc_walk.proofs.cursor.Cursor.back.Goals as goal

pub returns-then-place-self-clause-steps : goal.returns-then-place-self-clause-steps
returns-then-place-self-clause-steps c = back-end c.requires.is c.requires.stale (omega (arith, c.saturating_sub-place.ensures))

pub leave_out-requires-clause-fits : goal.leave_out-requires-clause-fits
leave_out-requires-clause-fits c =
    back-fits c.requires.is c.requires.stale _ _ c.if-place-self.false c.saturating_sub-place.ensures refl c.requires.rules

pub overflow_sub-self : goal.overflow_sub-self
overflow_sub-self c =
    omega (arith, odd c.requires.is c.requires.stale _ _ c.if-place-self.false c.saturating_sub-place.ensures refl c.requires.rules)

pub returns-clause-steps : goal.returns-clause-steps
returns-clause-steps c =
    back-to c.requires.is c.requires.stale _ _ c.if-place-self.false c.saturating_sub-place.ensures refl c.requires.rules _
    (is-part _ _ _ _ _ c.leave_out.ensures (omega (arith, c.requires.rules, c.requires.is.rules, c.requires.is.room)))
