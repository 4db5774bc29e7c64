use Rattle.std.proofs.Common.{refl}
use Rattle.std.proofs.lemmas.Result.{err_from_is_err_and}
use Rattle.council_run.proofs.Shared.Outcomes.{no-finding}
use Rattle.council_run.specs.Plans.{is_cause_many, limit_of}
use Rattle.council_run.specs.declared.columns.Columns.TheVariants as columns
use Rattle.council_run.proofs.runs.find_all.Goals as goal

pub returns-in_err-found-in-Minimal-clause-finds : goal.returns-in_err-found-in-Minimal-clause-finds
returns-in_err-found-in-Minimal-clause-finds g c = rw c.in-Minimal.is (λ lines same.
    let fault = c.in_err-found-in-Minimal.field-0.0 in
    let limit = limit_of c.args.plan c.args.options.now.most (is_cause_many fault.cause) in
    let failed = err_from_is_err_and c.from_residual-in_err-found-in-Minimal.result c.from_residual-in_err-found-in-Minimal.ensures.1 in
    let finds = c.in_err-found-in-Minimal.ensures.finds lines same in
    rw (failed.1, failed.2) (no-finding columns.Minimal limit c.args.game.now fault.cause finds.0, finds.1))

pub returns-in_err-found-in-Both-clause-finds : goal.returns-in_err-found-in-Both-clause-finds
returns-in_err-found-in-Both-clause-finds g c = rw c.in-Both.is (λ lines same.
    let fault = c.in_err-found-in-Both.field-0.0 in
    let limit = limit_of c.args.plan c.args.options.now.most (is_cause_many fault.cause) in
    let failed = err_from_is_err_and c.from_residual-in_err-found-in-Both.result c.from_residual-in_err-found-in-Both.ensures.1 in
    let finds = c.in_err-found-in-Both.ensures.finds lines same in
    rw (failed.1, failed.2) (no-finding columns.Both limit c.args.game.now fault.cause finds.0, finds.1))

pub returns-in-Minimal-clause-finds : goal.returns-in-Minimal-clause-finds
returns-in-Minimal-clause-finds g c = rw c.in-Minimal.is (λ lines same.
    let finds = c.in_ok-found-in-Minimal.ensures.finds lines same in (finds.0, refl, finds.1))

pub returns-in-Both-clause-finds : goal.returns-in-Both-clause-finds
returns-in-Both-clause-finds g c = rw c.in-Both.is (λ lines same.
    let finds = c.in_ok-found-in-Both.ensures.finds lines same in (finds.0, refl, (finds.1, c.choose_game-walked.ensures.winning c.in_ok-swings-in-Both.swings c.in_ok-swings-in-Both.ensures.counts)))
