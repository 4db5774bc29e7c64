use Rattle.council_game.proofs.Imports.{arith, common_steps, ℕ, length, refl, sym, ap, ◌∙◌, member_at, has}
use Rattle.council_game.proofs.game.Game.members_of.Goals.{then-has+in_ok-push_member, else-has}
use Rattle.council_game.proofs.Named.{place-in, place-out}
use Rattle.council_game.proofs.game.Game.members_of.Goals as goal

pub loop-place-preserved : goal.loop-place-preserved
loop-place-preserved c =
    let here = ap (λ (n : ℕ). has n c.loop-place.place c.args.coalition) (sym c.members-count.ensures.count) in
    elim c.if-has.branch [
      | then-has+in_ok-push_member w ↦ rw w.members-is (place-in c.args.self.now.ranks c.loop-place.members.items w.push_member.new.members.items
          (length c.args.self.now.names) c.args.coalition c.loop-place.place (member_at c.args.self.now.ranks c.loop-place.place)
          (here ∙ sym c.has.ensures ∙ w.if-has.true) refl w.in_ok-push_member.ensures c.loop-place.invariant)
      | else-has w ↦ rw w.members-is (place-out c.args.self.now.ranks c.loop-place.members.items (length c.args.self.now.names)
          c.args.coalition c.loop-place.place (here ∙ sym c.has.ensures ∙ w.if-has.false) c.loop-place.invariant)
    ]

pub returns : goal.returns
returns c = grind (arith, common_steps)
