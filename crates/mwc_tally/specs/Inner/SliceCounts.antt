-- What a thread counted of a game's slices.
use Rattle.std.specs.Prelude.{ℕ, ◌≡◌, ◌+◌, ◌^◌, ◌≤◌, ◌++◌, List}
use Rattle.std.specs.List.{flat_map}
use Rattle.council_game.specs.declared.limits.TheConstants.{MEMBERS}
use Rattle.council_game.specs.Game.{GameView, votes_of}
use Rattle.mwc_walk.specs.Slices.{slice}
use Rattle.power_index.specs.Tables.{Tables, AreTallies, AreCountsOfGame, table_total}
use Rattle.mwc_tally.specs.declared.thread_counts.ThreadCounts.{ThreadCounts}
use Rattle.mwc_tally.specs.declared.sliced_game.SlicedGame.{SlicedGame}

-- the coalitions of each slice
abbrev pub slice_of : SlicedGame → ℕ → List ℕ
slice_of s = slice (votes_of s.game.now) s.bits

-- the tables count these slices, joined
abbrev pub CountSlices : SlicedGame → List ℕ → Tables → Type 0
CountSlices s taken t = AreTallies s.game.now (flat_map (slice_of s) taken) t

-- the counts are those of the slices that were taken of a game with `bits` members fixed in each
abbrev pub AreThreadCountsAt : GameView → ℕ → ThreadCounts → Type 0
AreThreadCountsAt g bits s = AreTallies g (flat_map (slice (votes_of g) bits) s.taken.items) s.counts.value

abbrev pub AreThreadCounts : SlicedGame → ThreadCounts → Type 0
AreThreadCounts s totals = AreThreadCountsAt s.game.now s.bits totals

-- further slices are taken, unless there were more coalitions than any game has
abbrev pub AreTaken : ThreadCounts → List ℕ → Tables → ThreadCounts → Type 0
AreTaken old taken t new = table_total old.counts.value + table_total t ≤ 2 ^ MEMBERS → new.taken.items ≡ old.taken.items ++ taken

-- the tables count the whole game
abbrev pub CountWhole : SlicedGame → Tables → Type 0
CountWhole s t = AreCountsOfGame s.game.now t

-- the coalitions of a list before those to come are counted
pub record CountedUpTo (g : GameView) (whole to_come : List ℕ) (t : Tables) : Type 0 where
  pub before : List ℕ
  pub joined : before ++ to_come ≡ whole
  pub tallies : AreTallies g before t
