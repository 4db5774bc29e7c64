use Rattle.mwc_states.proofs.Imports.{AreDecided}
use Rattle.mwc_states.proofs.graph.decide_states.Given as goal

abbrev pub invariant-loop-place : goal.invariant-loop-place
invariant-loop-place l = AreDecided l.what l.member l.later.members.now l.table l.next l.place
