use Rattle.mwc_gather.proofs.{Imports.◌≡◌, Imports.arith, Wholes.pieces_more, Wholes.same_joined}
use Rattle.mwc_gather.proofs.gathered.Gathered.pieces.Goals as goal

pub loop-number-preserved : goal.loop-number-preserved
loop-number-preserved c = λ slice all. rw c.in_ok-push.ensures.items (
    pieces_more _ slice c.loop-number.number c.loop-number.row.items c.piece.result (c.loop-number.invariant slice all) (c.piece.ensures slice all))

pub returns-clause-each : goal.returns-clause-each
returns-clause-each c = λ slice all.
    rw (let e : c.loop-number.number ≡ c.args.self.now.slices = omega arith in e) at (c.loop-number.invariant slice all)

pub returns-clause-joined : goal.returns-clause-joined
returns-clause-joined c = λ slice all. same_joined _ slice c.loop-number.row.items _ (returns-clause-each c slice all)
