use Rattle.mwc_walk.proofs.Imports.{[], ◌<◌, ℕ, get_or, votes_of}
use Rattle.mwc_walk.specs.Inner.Places.{SetPasses, meets_at}
use Rattle.mwc_walk.proofs.cursor.Cursor.wins.Given as goal

abbrev pub invariant-loop-way : goal.invariant-loop-way
invariant-loop-way l = (k : ℕ) → k < l.way → SetPasses (meets_at l.self.place l.self.prefix) (votes_of l.game) (get_or l.self.sets k []) → ⊥
