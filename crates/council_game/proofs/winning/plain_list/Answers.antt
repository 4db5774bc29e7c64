use Rattle.council_game.proofs.Imports.{minimal_below, nat_tests, common_steps, ◌^◌, ◌<◌, ◌≤◌, ◌∙◌, ap, length, sym, arith}
use Rattle.council_game.proofs.Imports.{minimal_coalitions, votes_of}
use Rattle.std.proofs.{Math.Nat.pow-le-pow_right, lemmas.Nat.one_shl}
use Rattle.council_game.proofs.Shared.Listing.{listing-is, listed-more, listed-less, listed-all}
use Rattle.council_game.proofs.winning.plain_list.Goals as goal

pub loop-mask-init : goal.loop-mask-init
unfolding minimal_coalitions minimal_below
loop-mask-init c = grind (arith, nat_tests, one_shl, pow-le-pow_right)

pub loop-mask-preserved-in-Continue-1 : goal.loop-mask-preserved-in-Continue-1
loop-mask-preserved-in-Continue-1 c = record {
  range = omega (arith, c.loop-mask.invariant.range);
  done = listed-more (votes_of c.args.game.now) c.loop-mask.list.items c.push.new.self.items
      (minimal_coalitions (votes_of c.args.game.now)) c.loop-mask.mask c.of_mask-coalition.result c.loop-mask-test.true
      c.of_mask-coalition.ensures (sym c.is_minimal.ensures ∙ c.if-is_minimal.true) c.in_ok-push.ensures.items c.loop-mask.invariant.done;
}

pub loop-mask-preserved : goal.loop-mask-preserved
loop-mask-preserved c = grind (arith, common_steps, listed-less)

pub returns : goal.returns
returns c =
    let all = listed-all (votes_of c.args.game.now) c.loop-mask.list.items (minimal_coalitions (votes_of c.args.game.now))
    c.loop-mask.mask (omega arith) c.loop-mask.invariant.done in
    let is = listing-is (votes_of c.args.game.now) c.members-members.ensures.votes in
    let two : 0 < 2 = omega arith in
    let most : 2 ^ length c.args.game.now.names ≤ 2 ^ 20 = pow-le-pow_right two c.requires in
    record { all = all; some = omega (arith, ap length all, is.some); few = omega (arith, ap length all, is.few, most) }
