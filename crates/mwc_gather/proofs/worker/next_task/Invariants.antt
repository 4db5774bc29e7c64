use Rattle.mwc_gather.proofs.Imports.{◌≡◌}
use Rattle.mwc_gather.proofs.worker.next_task.Given as goal

abbrev pub invariant-loop : goal.invariant-loop
invariant-loop g l = (l.tasks.ring ≡ l.initial.tasks.ring) × (l.tasks.taken ≡ l.initial.tasks.taken)
