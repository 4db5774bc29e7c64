use Rattle.mwc_gather.proofs.Imports.{◌≡◌, [], rules, arith, refl, sym, ◌∙◌, ap, append-nil, GameView}
use Rattle.mwc_gather.proofs.Imports.{slicing}
use Rattle.std.proofs.Common.{add-zero}
use Rattle.mwc_walk.specs.WalkView.{WalkView}
use Rattle.mwc_gather.proofs.FirstWords.{none_sent}
use Rattle.mwc_gather.proofs.UnderWay.{one_more, takes_some, sent_cut, takes_some_at_end, sent_whole}
use Rattle.mwc_gather.proofs.send.send_slice_in_rows.Goals as goal

pub loop-coalition-init : goal.loop-coalition-init
loop-coalition-init g c = record {
  same = refl;
  broken = refl;
  some_left = c.requires.left.0;
  sent = record {
    given = [];
    split = ap (λ (v : GameView). (slicing v c.args.bits).slice c.args.slice) (sym c.admit.ensures)
        ∙ ap (λ (w : WalkView). w.to_come) (sym c.new-walk.ensures.view);
    count = add-zero _;
    first = (
      [],
      sym (append-nil (g.P.PipeIn.accepted c.args.out.now)),
      c.restart.ensures,
    );
  };
}

pub returns-then-not-send_last-clause-sends : goal.returns-then-not-send_last-clause-sends
returns-then-not-send_last-clause-sends g c =
    let some = c.if-left-eq1.true in
    let more = one_more {next = 0} c.in-Some.coalition c.loop-coalition.invariant.sent c.in-Some.ensures (omega arith) (none_sent _ _) in
    let no = c.if-not-send_last.ensures.refused refl in (no.1, takes_some (slicing c.args.guarded.now c.args.bits) refl more no.0)

pub returns-then-left-eq1-clause-sends : goal.returns-then-left-eq1-clause-sends
returns-then-left-eq1-clause-sends g c =
    let some = c.if-left-eq1.true in
    let more = one_more {next = 0} c.in-Some.coalition c.loop-coalition.invariant.sent c.in-Some.ensures (omega arith) (none_sent _ _) in
    sent_cut (slicing c.args.guarded.now c.args.bits) refl more refl (c.if-not-send_last.ensures.sent refl).0

pub returns-then-not-add-clause-sends : goal.returns-then-not-add-clause-sends
returns-then-not-add-clause-sends g c =
    let no = c.if-not-add.ensures.refused refl in (no.1, takes_some (slicing c.args.guarded.now c.args.bits) refl c.loop-coalition.invariant.sent no.0)

pub loop-coalition-preserved : goal.loop-coalition-preserved
loop-coalition-preserved g c =
    let some = c.loop-coalition.invariant.some_left in
    let added = c.if-not-add.ensures.added refl in
    record {
      same = c.if-not-add.ensures.identity ∙ c.loop-coalition.invariant.same;
      broken = added.1 ∙ c.loop-coalition.invariant.broken;
      some_left = omega (arith, c.if-left-eq1.false);
      sent = one_more c.in-Some.coalition c.loop-coalition.invariant.sent c.in-Some.ensures (omega arith) added.0;
    }

pub returns-then-not-send_last-2-clause-sends : goal.returns-then-not-send_last-2-clause-sends
returns-then-not-send_last-2-clause-sends g c =
    let none : c.loop-coalition.walk.to_come ≡ [] = search rules in
    let no = c.if-not-send_last-2.ensures.refused refl in
    (no.1, takes_some_at_end (slicing c.args.guarded.now c.args.bits) refl (rw none at c.loop-coalition.invariant.sent) c.loop-coalition.invariant.some_left no.0)

pub returns-clause-sends : goal.returns-clause-sends
returns-clause-sends g c =
    let none : c.loop-coalition.walk.to_come ≡ [] = search rules in
    sent_whole (slicing c.args.guarded.now c.args.bits) refl (rw none at c.loop-coalition.invariant.sent) c.loop-coalition.invariant.some_left (c.if-not-send_last-2.ensures.sent refl).0
