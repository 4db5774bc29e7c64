use Rattle.std.proofs.Common.{◌∙◌, List, ℕ, length, get_or, sym, ap, arith, Bor, pow_pos}
use Rattle.council_game.specs.Votes.{has}
use Rattle.council_game.proofs.Shared.Digits.{has-none}
use Rattle.game_calls.proofs.names.coalition_of_names.Goals.{in-Some, in_default}
use Rattle.game_calls.proofs.Others.{named, unnamed}
use Rattle.game_calls.proofs.names.coalition_of_names.Goals as goal

pub loop-name-init : goal.loop-name-init
loop-name-init c = record {
  members = λ i li. ap (has (length c.args.game.now.names) (get_or c.args.game.now.ranks i 0)) c.none-coalition.ensures ∙ has-none _ _;
  below = (let pos = pow_pos (length c.args.game.now.names) in omega (arith, pos, c.none-coalition.ensures));
}

pub loop-name-preserved : goal.loop-name-preserved
loop-name-preserved c =
    elim c.match-member_named.branch [
      | in-Some w ↦ rw w.coalition-is (record {
        members = named text c.args.game.now c.args.names.now c.loop-name.name-index w.in-Some.member c.loop-name.coalition
            w.with_member-coalition.result _ c.loop-name-test.true (sym c.member_named.ensures.member ∙ w.in-Some.is)
            w.with_member-coalition.ensures.inside w.with_member-coalition.ensures.others c.loop-name.invariant.members;
        below = w.with_member-coalition.ensures.below c.loop-name.invariant.below;
      })
      | in_default w ↦ rw w.coalition-is (record {
        members = unnamed text c.args.game.now c.args.names.now c.loop-name.name-index c.loop-name.coalition _ c.loop-name-test.true
            (sym c.member_named.ensures.member ∙ w.in_default.is) c.loop-name.invariant.members;
        below = c.loop-name.invariant.below;
      })
    ]
  where
    text : Bor (List ℕ) → List ℕ
    text name = name.now
