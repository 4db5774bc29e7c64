use Rattle.mwc_walk.proofs.Imports.{[], ◌<◌, ℕ, get_or, votes_of}
use Rattle.mwc_walk.specs.Inner.Places.{NothingMeets}
use Rattle.mwc_walk.proofs.cursor.Cursor.has_nothing_below.Given as goal

abbrev pub invariant-loop-way : goal.invariant-loop-way
invariant-loop-way l = (k : ℕ) → k < l.way → NothingMeets (votes_of l.game) (get_or l.self.sets k []) l.self.place l.self.prefix
