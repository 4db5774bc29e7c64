use Rattle.council_game.proofs.Imports.{common_steps, get_or, refl, arith, pow_pos, has-none}
use Rattle.council_game.proofs.Named.{taken-in}
use Rattle.council_game.proofs.game.Game.coalition_of.Goals as goal

pub loop-member-init : goal.loop-member-init
loop-member-init c = grind (arith, common_steps, has-none, pow_pos)

pub loop-member-preserved : goal.loop-member-preserved
loop-member-preserved c =
    let game = c.args.self.now in
    record {
      members = taken-in game c.args.members.now c.loop-member.member-index
          (get_or game.ranks (get_or c.args.members.now c.loop-member.member-index 0) 0)
          c.loop-member.coalition c.with_member-coalition.result c.with_member-coalition.ensures.game c.loop-member-test.true
          (c.requires c.loop-member.member-index 0 c.loop-member-test.true) refl
          c.with_member-coalition.ensures.inside c.with_member-coalition.ensures.others c.loop-member.invariant.members;
      below = c.with_member-coalition.ensures.below c.loop-member.invariant.below;
    }
