use Rattle.std.proofs.Common.{refl}
use Rattle.std.proofs.lemmas.Result.{err_from_is_err_and}
use Rattle.council_run.proofs.runs.run_by.Goals as goal

pub returns-in_err-game-clause-outcome : goal.returns-in_err-game-clause-outcome
returns-in_err-game-clause-outcome g c =
    let failed = err_from_is_err_and c.from_residual.result c.from_residual.ensures.1 in
    rw (failed.1, failed.2) (refl, refl, c.in_err-game.ensures)
