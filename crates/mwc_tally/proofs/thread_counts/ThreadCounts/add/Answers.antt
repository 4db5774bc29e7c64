use Rattle.std.proofs.Common.{◌≡◌, ◌++◌, rules, flat_map}
use Rattle.std.proofs.lemmas.List.Concat.{flat_map-append}
use Rattle.mwc_tally.specs.Inner.SliceCounts.{slice_of}
use Rattle.mwc_tally.proofs.thread_counts.ThreadCounts.add.Goals as goal

pub returns-clause-counts : goal.returns-clause-counts
returns-clause-counts c =
    let items : c.extend_from_slice.new.self.items ≡ c.args.self.now.taken.items ++ c.args.taken.now = search rules in
    rw (items, flat_map-append)
    (c.add.ensures.tallies c.args.slices.game.now (flat_map (slice_of c.args.slices) c.args.self.now.taken.items) _
    (rw c.deref_mut.ensures.value c.requires.own) c.requires.more)
