use Rattle.mwc_walk.proofs.Spared.{cannot-meet, excess-are}
use Rattle.mwc_walk.proofs.cursor.Cursor.bars.Goals.{then-not-can_meet-via-then-not-can_meet, then-not-can_meet-via-else-not-can_meet+then-has_spared}
use Rattle.mwc_walk.proofs.cursor.Cursor.bars.Goals as goal

pub returns-then-not-can_meet-clause-none : goal.returns-then-not-can_meet-clause-none
returns-then-not-can_meet-clause-none c = λ _. elim c.then-not-can_meet.branch [
  | then-not-can_meet-via-then-not-can_meet w ↦ cannot-meet c.requires.is c.args.set.now (c.can_meet.ensures.not w.if-not-can_meet.true)
  | then-not-can_meet-via-else-not-can_meet+then-has_spared w ↦
      w.has_spared.ensures.some w.if-has_spared.true (excess-are c.requires.is c.args.set.now w.excess.result w.excess.ensures)
]
