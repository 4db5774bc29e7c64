use Rattle.mwc_walk.proofs.Imports.{◌≡◌, ◌++◌, map, take, drop, lane_with}
use Rattle.mwc_walk.proofs.lane.take_in.Given as goal

abbrev pub invariant-loop-lane : goal.invariant-loop-lane
invariant-loop-lane l = l.lanes ≡ map (lane_with l.place) (take l.lane-index l.initial.lanes) ++ drop l.lane-index l.initial.lanes
