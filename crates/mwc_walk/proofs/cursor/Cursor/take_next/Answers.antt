use Rattle.mwc_walk.proofs.Imports.{◌≤◌, ◌^◌, pow_mono, arith}
use Rattle.mwc_walk.proofs.Steps.{enter-in, in-fits, in-room, is-part}
use Rattle.mwc_walk.proofs.cursor.Cursor.take_next.Goals as goal

pub take_in-requires-clause-place : goal.take_in-requires-clause-place
take_in-requires-clause-place c =
    let room = in-room c.requires.is c.requires.can c.requires.lost in omega (arith, room, c.requires.is.game.few)

pub take_in-requires-clause-fits : goal.take_in-requires-clause-fits
take_in-requires-clause-fits c = in-fits c.requires.is c.requires.can c.requires.lost c.requires.rules

pub returns-clause-steps : goal.returns-clause-steps
returns-clause-steps c =
    enter-in c.requires.is c.requires.can c.requires.lost c.requires.rules c.requires.fresh
    _ _ c.saturating_add-self.ensures (omega arith)
    (is-part _ _ _ _ _ c.take_in.ensures (omega (arith, c.requires.rules, c.requires.is.rules, c.requires.is.room)))

pub overflow_mul-self : goal.overflow_mul-self
overflow_mul-self c =
    let is = c.requires.is in
    let up : 2 ^ c.args.self.now.place ≤ 2 ^ 40 = pow_mono {j = 40} (omega (arith, is.place.to, is.game.few)) in
    omega (arith, up, is.place.short)
