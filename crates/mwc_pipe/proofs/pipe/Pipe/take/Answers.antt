use Rattle.std.proofs.Common.{rules}
use Rattle.mwc_pipe.proofs.Steps.{take_step}
use Rattle.mwc_pipe.proofs.pipe.Pipe.take.Goals as goal

pub returns-clause-step : goal.returns-clause-step
returns-clause-step g c = take_step _ _ _ (search rules)
