use Rattle.std.proofs.Common.{◌∙◌, ◌≤◌, ap}
use Rattle.council_c.specs.Bounded.{IsTooLong}
use Rattle.mwc_walk.specs.WalkView.{WalkView}
use Rattle.council_c.proofs.Visits.{listed-so, long-walk}
use Rattle.council_c.proofs.bounded.list_within.Goals as goal

pub returns : goal.returns
returns c =
    let g = c.args.game.now in
    let made = c.visits-visits in
    let same = c.in_ok-listed.ensures.same in
    let walk = c.list_walked.new.walk in
    listed-so g c.args.most (c.args.visits ≤ walk.visits) (IsTooLong c.args.visits g) (λ long.
    long-walk g walk c.one_slice_is_the_whole.ensures c.was_checked.ensures.votes
    (same.0 ∙ ap (λ (v : WalkView). v.votes) c.new-walk.ensures.view) same.1 same.2
    c.args.visits made.result made.ensures.most made.ensures.ever long made.ensures.count)
    c.in_ok-listed.listed c.in_ok-listed.ensures.list
