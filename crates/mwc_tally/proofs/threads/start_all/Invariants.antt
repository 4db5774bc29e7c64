use Rattle.std.proofs.Common.{◌≡◌, ◌≤◌, vec_len, vec_capacity, All}
use Rattle.mwc_tally.proofs.threads.start_all.Given as goal

abbrev pub invariant-loop-worker : goal.invariant-loop-worker
invariant-loop-worker g l = record {
  count : vec_len l.threads ≡ l.worker;
  room : l.workers ≤ vec_capacity l.threads;
  given : All (λ t. t.promise ≡ l.queue.slices) l.threads.items;
}
