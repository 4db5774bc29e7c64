use Rattle.mwc_walk.proofs.Imports.{true, ◌∷◌, []}
use Rattle.mwc_walk.proofs.{Rules.all-way, Spared.kept-minimal_one, Spared.excess-are, Spared.nothing-one}
use Rattle.mwc_walk.proofs.cursor.Cursor.spares_here.Goals as goal

pub has_spared-requires-clause-way : goal.has_spared-requires-clause-way
has_spared-requires-clause-way c = all-way _ c.requires.is.game c.requires.one_way

pub returns : goal.returns
returns c = (
  λ spared. nothing-one c.requires.is c.requires.one_way
      (c.has_spared.ensures.some spared (excess-are c.requires.is (true ∷ true ∷ true ∷ true ∷ []) c.excess.result c.excess.ensures)),
  λ lost won. kept-minimal_one c.requires.is c.excess.result c.excess.ensures won c.requires.one_way (c.has_spared.ensures.none lost),
)
