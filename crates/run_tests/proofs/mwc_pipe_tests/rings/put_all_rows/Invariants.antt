use Rattle.std.proofs.Common.{◌≡◌, ◌≤◌}
use Rattle.run_tests.proofs.mwc_pipe_tests.rings.put_all_rows.Given as goal

abbrev pub invariant-loop : goal.invariant-loop
invariant-loop l = (l.to.ring ≡ l.initial.to.ring) × (l.number ≤ 100000)

abbrev pub invariant-loop-at : goal.invariant-loop-at
invariant-loop-at l = l.at ≤ l.count
