use Rattle.std.proofs.Common.{◌∙◌, ap}
use Rattle.mwc_walk.specs.WalkView.{WalkView}
use Rattle.council_c.proofs.Visits.{long-walk}
use Rattle.council_c.proofs.bounded.count_within.Goals as goal

pub returns-in-None-clause-long : goal.returns-in-None-clause-long
returns-in-None-clause-long c =
    let made = c.visits-visits in
    let same = c.in_ok-counted.ensures.same in
    let long = rw c.in-None.is at c.in_ok-counted.ensures.long in
    long-walk c.args.game.now c.count_walked.new.walk c.one_slice_is_the_whole.ensures c.was_checked.ensures.votes
    (same.0 ∙ ap (λ (v : WalkView). v.votes) c.new-walk.ensures.view) same.1 same.2
    c.args.visits made.result made.ensures.most made.ensures.ever long made.ensures.count
