use Rattle.std.proofs.Common.{arith}
use Rattle.council_c.proofs.Digits.{more-below, more-fits, more-mask}
use Rattle.council_c.proofs.masks.mask_of.Goals as goal

pub overflow_add-mask : goal.overflow_add-mask
overflow_add-mask c =
    let members = c.members-member-end.ensures in
    let more = more-fits c.args.game.now c.args.coalition c.loop-member.mask c.digit_of-mask.result c.loop-member.member c.digit_of-mask.ensures
    (omega (arith, c.loop-member-test.true, members.count, members.votes.few)) c.loop-member.invariant.below in
    grind (arith, more)

pub loop-member-preserved : goal.loop-member-preserved
loop-member-preserved c = record {
  mask = more-mask c.args.game.now c.args.coalition c.loop-member.mask c.digit_of-mask.result c.loop-member.member c.digit_of-mask.ensures
      c.loop-member.invariant.mask;
  below = more-below c.args.game.now c.args.coalition c.loop-member.mask c.digit_of-mask.result c.loop-member.member c.digit_of-mask.ensures
      c.loop-member.invariant.below;
}
