use Rattle.mwc_walk.proofs.Imports.{refl, sym, ◌∙◌}
use Rattle.mwc_walk.proofs.Steps.{enter-dead, enter-spare, reach-is, win-is}
use Rattle.mwc_walk.proofs.cursor.Cursor.enter.Goals.{then-not-all_reach-via-else-not-all_reach+then-passes_by}
use Rattle.mwc_walk.proofs.cursor.Cursor.enter.Goals.{then-not-all_reach-via-then-not-all_reach}
use Rattle.mwc_walk.proofs.cursor.Cursor.enter.Goals as goal

pub returns-then-not-all_reach-clause-steps : goal.returns-then-not-all_reach-clause-steps
returns-then-not-all_reach-clause-steps c = elim c.then-not-all_reach.branch [
  | then-not-all_reach-via-then-not-all_reach w ↦
      enter-dead c.requires.is c.requires.fresh (sym (w.if-not-all_reach.ensures ∙ reach-is c.requires.is c.requires.rules c.requires.one))
  | then-not-all_reach-via-else-not-all_reach+then-passes_by w ↦
      enter-spare c.requires.is c.requires.fresh (w.if-passes_by.ensures.passes.0 refl)
      (λ one. w.if-passes_by.ensures.one refl (c.requires.rules ∙ one))
]

pub take_next-requires-clause-can : goal.take_next-requires-clause-can
take_next-requires-clause-can c = sym (c.if-not-all_reach.ensures ∙ reach-is c.requires.is c.requires.rules c.requires.one)

pub take_next-requires-clause-lost : goal.take_next-requires-clause-lost
take_next-requires-clause-lost c = sym (c.if-not-all_win.ensures ∙ win-is c.requires.is c.requires.rules c.requires.one)

pub give-requires-clause-won : goal.give-requires-clause-won
give-requires-clause-won c = sym (c.if-not-all_win.ensures ∙ win-is c.requires.is c.requires.rules c.requires.one)

pub give-requires-clause-minimal : goal.give-requires-clause-minimal
give-requires-clause-minimal c =
    c.if-passes_by.ensures.passes.1 refl (sym (c.if-not-all_win.ensures ∙ win-is c.requires.is c.requires.rules c.requires.one))
