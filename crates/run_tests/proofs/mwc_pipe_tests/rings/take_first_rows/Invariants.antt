use Rattle.std.proofs.Common.{◌≡◌, ◌≤◌, ◌+◌}
use Rattle.run_tests.proofs.mwc_pipe_tests.rings.take_first_rows.Given as goal

abbrev pub invariant-loop : goal.invariant-loop
invariant-loop l = (l.from.ring ≡ l.initial.from.ring) × (l.number ≤ l.count)

abbrev pub invariant-loop-word : goal.invariant-loop-word
invariant-loop-word l = l.number ≡ l.initial.number + l.word-index
