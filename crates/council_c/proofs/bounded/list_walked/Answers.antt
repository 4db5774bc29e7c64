use Rattle.std.proofs.Common.{◌∙◌, sym}
use Rattle.mwc_walk.specs.WalkView.{given}
use Rattle.council_c.proofs.Visits.{ended, lists, over-all}
use Rattle.council_c.proofs.bounded.list_walked.Goals as goal

pub returns-in-End-clause-list : goal.returns-in-End-clause-list
returns-in-End-clause-list c =
    let g = c.args.game.now in
    let before = c.loop-alloc.invariant in
    let end = c.in-End.ensures in
    let all = end.whole ∙ over-all g c.seek.new.self c.one_slice_is_the_whole.ensures c.was_checked.ensures.votes
    (end.same.0 ∙ before.votes) (end.same.1 ∙ before.bits) (end.same.2 ∙ before.number) in
    lists g c.args.most c.loop-alloc.list.items c.was_checked.ensures.game
    (before.list ∙ ended _ (given c.seek.new.self) (given c.loop-alloc.walk) c.seek.new.self.to_come all end.seeks.1 end.seeks.2) before.few
