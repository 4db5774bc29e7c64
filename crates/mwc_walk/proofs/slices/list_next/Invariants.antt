use Rattle.mwc_walk.proofs.Imports.{◌≡◌, ◌++◌, length}
use Rattle.mwc_walk.proofs.slices.list_next.Given as goal

abbrev pub invariant-loop : goal.invariant-loop
invariant-loop l = record { joined : l.list.items ++ l.walk.to_come ≡ l.initial.walk.to_come; count : length l.list.items ≡ l.counter }
