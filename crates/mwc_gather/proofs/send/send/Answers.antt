use Rattle.mwc_gather.proofs.{FirstWords.first_more, Imports.drop}
use Rattle.mwc_gather.proofs.send.send.Goals as goal

pub returns-then-outcome-clause-refused : goal.returns-then-outcome-clause-refused
returns-then-outcome-clause-refused g c = λ z.
    let outcome = c.put_row-outcome in
    let accepted = g.P.PipeIn.accepted in (
      (
        drop outcome.result.accepted c.loop.rest.now,
        first_more (accepted c.args.out.now) c.args.words.now (accepted c.loop.out) c.loop.rest.now
            (accepted outcome.new.out) outcome.result.accepted c.loop.invariant.first outcome.ensures.accepted,
      ),
      outcome.ensures.refused c.if-outcome.true,
    )
