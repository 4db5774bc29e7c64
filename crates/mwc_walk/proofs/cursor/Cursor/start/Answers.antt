use Rattle.mwc_walk.proofs.Imports.{◌∙◌, arith, votes_of}
use Rattle.mwc_walk.proofs.Steps.{starts}
use Rattle.mwc_walk.proofs.cursor.Cursor.start.Goals as goal

pub returns : goal.returns
returns c =
    let count = c.members-members.ensures.count in
    let prefix = c.first_prefix-prefix.ensures in
    starts (votes_of c.args.game.now) c.args.bits c.args.number _ _ _ _ _ _ _ c.ways.ensures.votes c.sets_of.ensures c.members-members.ensures.votes c.requires.bits
    c.requires.number count c.rules-rules.ensures.votes (omega arith)
    (rw (prefix, count) at (c.of_mask-fixed.ensures ∙ c.mask_of.ensures.mask)) c.lanes_of.ensures.lanes
    c.lanes_of.ensures.sums prefix
