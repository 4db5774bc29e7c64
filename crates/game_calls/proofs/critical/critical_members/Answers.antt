use Rattle.std.proofs.Common.{◌∙◌, sym}
use Rattle.power_index.specs.Swings.{is_critical}
use Rattle.game_calls.proofs.critical.critical_members.Goals.{then-is_critical+in_ok-push, else-is_critical}
use Rattle.game_calls.proofs.Others.{passes, fails}
use Rattle.game_calls.proofs.critical.critical_members.Goals as goal

pub loop-member-preserved : goal.loop-member-preserved
loop-member-preserved c =
    elim c.if-is_critical.branch [
      | then-is_critical+in_ok-push w ↦ rw w.critical-is (passes (is_critical c.args.game.now c.args.coalition) c.loop-member.member
          c.loop-member.critical.items w.push.new.self.items (sym c.is_critical.ensures ∙ w.if-is_critical.true) w.in_ok-push.ensures.items
          c.loop-member.invariant)
      | else-is_critical w ↦ rw w.critical-is (fails (is_critical c.args.game.now c.args.coalition) c.loop-member.member
          c.loop-member.critical.items (sym c.is_critical.ensures ∙ w.if-is_critical.false) c.loop-member.invariant)
    ]
