use Rattle.council_run.proofs.Shared.Outcomes.{finds-either, not-found-either}
use Rattle.council_run.proofs.runs.list_or_count.Goals as goal

pub returns-in-Err : goal.returns-in-Err
returns-in-Err g c lines same =
    let finds = c.in-Err.ensures lines same in
    (not-found-either c.args.options.now.most c.args.game.now c.in-Err.fault.cause finds.0, finds.1)

pub returns-in_default : goal.returns-in_default
returns-in_default g c lines same =
    let finds = c.in-Err.ensures lines same in
    (not-found-either c.args.options.now.most c.args.game.now c.in-Err.fault.cause finds.0, finds.1)

pub returns-in_default-2 : goal.returns-in_default-2
returns-in_default-2 g c lines same =
    finds-either c.args.options.now.most lines c.args.game.now c.list_counted.result (c.list_counted.ensures lines same)

pub returns-then-options : goal.returns-then-options
returns-then-options g c lines same =
    finds-either c.args.options.now.most lines c.args.game.now c.list_by_workers.result (c.list_by_workers.ensures lines same)
