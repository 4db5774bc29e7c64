use Rattle.std.proofs.{Common.arith, lemmas.Bool.Decides.nat_tests}
use Rattle.mwc_pipe.proofs.Steps.{accepted_step, closed_step, full_step}
use Rattle.mwc_pipe.proofs.pipe.Pipe.put.Goals as goal

pub returns-then-self-clause-step : goal.returns-then-self-clause-step
returns-then-self-clause-step g c = closed_step _ _ (rw (← c.self.view_is) c.if-self.true)

pub returns-then-len-self-clause-step : goal.returns-then-len-self-clause-step
returns-then-len-self-clause-step g c =
    full_step _ _ (rw (← c.self.view_is) c.if-self.false) (rw (← c.self.view_is) (omega (arith, c.self.invariant)))

pub returns-clause-step : goal.returns-clause-step
returns-clause-step g c = grind (arith, nat_tests, accepted_step)
