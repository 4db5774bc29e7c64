use Rattle.std.proofs.Common.{◌∙◌, sym, arith}
use Rattle.std.proofs.{Math.Nat.pow-le-pow_right, lemmas.Bool.Decides.nat_tests, lemmas.Nat.one_shl}
use Rattle.council_game.specs.{Game.votes_of, Votes.wins}
unfoldable pub use Rattle.power_index.specs.Swings.{winning_coalitions}
use Rattle.council_run.proofs.Filled.{filled, more}
use Rattle.council_run.proofs.plain.list_winning.Goals as goal

pub loop-mask-init : goal.loop-mask-init
unfolding winning_coalitions
loop-mask-init c = grind (arith, nat_tests, one_shl, pow-le-pow_right)

pub loop-mask-preserved-in-Continue-1 : goal.loop-mask-preserved-in-Continue-1
loop-mask-preserved-in-Continue-1 c = record {
  range = omega (arith, c.loop-mask.invariant.range);
  done = more (wins (votes_of c.args.game.now)) _ _ _ _ _ c.loop-mask-test.true c.of_mask-coalition.ensures
      (sym c.wins.ensures ∙ c.if-wins.true) c.in_ok-push.ensures.items c.loop-mask.invariant.done;
}

pub returns : goal.returns
returns c = filled (wins (votes_of c.args.game.now)) _ _ _ (omega arith) c.loop-mask.invariant.done
