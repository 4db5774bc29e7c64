use Rattle.mwc_pipe.proofs.WholeRuns.{replayed_next}
use Rattle.mwc_pipe.proofs.trace.Trace.serve_all.Goals as goal

pub loop-step-preserved : goal.loop-step-preserved
loop-step-preserved g c =
    replayed_next c.args.pipe.now.capacity c.args.steps.now c.loop-step.step-index _ _ _ _ _ _ _ c.serve.new.pipe c.step-item.result
    c.in_ok-reply.reply
    c.loop-step.invariant c.in_ok-reply.ensures c.loop-step-test.true c.step-item.is
    c.in_ok-add.ensures.replies c.in_ok-add.ensures.came c.in_ok-add.ensures.gone
