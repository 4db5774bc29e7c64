use Rattle.std.proofs.Common.{◌∙◌, ap, arith, length}
use Rattle.mwc_pipe.proofs.WholeRuns.{nothing_enters_after_close_lem, replayed_closed, replayed_short}
use Rattle.mwc_pipe.specs.PipeView.{PipeView}
use Rattle.mwc_pipe.proofs.trace.replay.Goals as goal

pub returns-clause-lawful : goal.returns-clause-lawful
returns-clause-lawful g c =
    let served = c.in_ok-serve_all.ensures in rw (served.came, served.gone, c.in_ok-trace.ensures) served.leaves.lawful

pub returns-clause-room : goal.returns-clause-room
returns-clause-room g c =
    let short = replayed_short c.new-pipe.result.capacity c.args.steps.now _ c.in_ok-serve_all.ensures.leaves in
    omega (arith, short, ap length c.in_ok-trace.ensures, ap (λ (p : PipeView g.row.T.Denot). p.capacity) c.new-pipe.ensures)

pub returns-clause-shut : goal.returns-clause-shut
returns-clause-shut g c = rw c.in_ok-serve_all.ensures.replies (nothing_enters_after_close_lem _ _)

pub returns-clause-closed : goal.returns-clause-closed
returns-clause-closed g c = c.is_closed.ensures ∙ replayed_closed c.new-pipe.result.capacity c.args.steps.now _ c.in_ok-serve_all.ensures.leaves
