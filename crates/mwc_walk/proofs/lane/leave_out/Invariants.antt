use Rattle.mwc_walk.proofs.Imports.{◌≡◌, ◌++◌, map, take, drop, lane_without}
use Rattle.mwc_walk.proofs.lane.leave_out.Given as goal

abbrev pub invariant-loop-lane : goal.invariant-loop-lane
invariant-loop-lane l = l.lanes ≡ map (lane_without l.place) (take l.lane-index l.initial.lanes) ++ drop l.lane-index l.initial.lanes
