use Rattle.mwc_walk.proofs.Imports.{◌∙◌}
use Rattle.mwc_walk.proofs.Steps.{enter-give}
use Rattle.mwc_walk.proofs.cursor.Cursor.give.Goals as goal

pub returns-clause-steps : goal.returns-clause-steps
returns-clause-steps c =
    enter-give c.requires.is c.requires.won c.requires.fresh _ (c.of_mask-found.ensures ∙ c.mask_of.ensures.mask) c.requires.minimal
