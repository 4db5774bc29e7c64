use Rattle.mwc_states.proofs.Imports.{map, IsBuilding}
use Rattle.mwc_states.proofs.graph.build.Given as goal

abbrev pub invariant-loop-level : goal.invariant-loop-level
invariant-loop-level g l = IsBuilding l.what l.members l.state (map (λ links. links.items) l.levels.items) l.table l.level l.left
