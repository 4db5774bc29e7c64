use Rattle.std.proofs.Common.{◌∙◌, sym}
use Rattle.mwc_tally.proofs.Counting.{whole-counts}
use Rattle.mwc_tally.proofs.thread_counts.ThreadCounts.whole.Goals as goal

pub returns-then-is_each_once : goal.returns-then-is_each_once
returns-then-is_each_once c =
    whole-counts c.args.slices c.args.self.taken.items _ c.count.result _ c.sort_unstable.ensures.permutation
    (sym c.deref.ensures.value ∙ c.is_each_once.ensures c.if-is_each_once.true) c.count.ensures c.requires
