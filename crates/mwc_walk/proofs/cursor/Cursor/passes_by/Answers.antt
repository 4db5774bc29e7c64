use Rattle.mwc_walk.proofs.{Imports.refl, Rules.all-way, Spared.nothing-one}
use Rattle.mwc_walk.proofs.cursor.Cursor.passes_by.Goals as goal

pub prunes-requires-clause-way : goal.prunes-requires-clause-way
prunes-requires-clause-way c = all-way _ c.requires.is.game c.requires.one_way

pub returns-then-rules-gt1-clause-passes : goal.returns-then-rules-gt1-clause-passes
returns-then-rules-gt1-clause-passes c = (
  λ pruned. nothing-one c.requires.is c.requires.one_way (c.prunes.ensures pruned),
  λ _ won. c.if-spares_one.ensures.passes.1 refl won,
)
