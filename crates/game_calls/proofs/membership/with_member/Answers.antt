use Rattle.game_calls.proofs.Others.{others_kept}
use Rattle.game_calls.proofs.membership.with_member.Goals as goal

pub returns-clause-others : goal.returns-clause-others
returns-clause-others c =
    others_kept c.args.game.now c.members.ensures.game c.members.result c.args.member c.place_of.result c.args.coalition c.with.result
    c.members.ensures.count c.place_of.ensures.place c.requires c.with.ensures.others
