use Rattle.mwc_walk.proofs.Imports.{length-take, get_or-drop, length-map, arith, get_or_default, map_over_more, lane_with, common_steps}
use Rattle.mwc_walk.proofs.Imports.{get_or-append_right, All-get_or}
use Rattle.mwc_walk.proofs.lane.take_in.Goals as goal

pub loop-lane-preserved : goal.loop-lane-preserved
loop-lane-preserved c =
    map_over_more (lane_with c.args.place) c.args.lanes.now c.loop-lane.lanes c.loop-lane.lane-index _ (omega arith) c.loop-lane.invariant
    (get_or_default c.loop-lane.lanes c.loop-lane.lane-index _ _ (omega arith))

pub overflow_add-lane-in-loop-lane : goal.overflow_add-lane-in-loop-lane
overflow_add-lane-in-loop-lane c = grind (arith, get_or-append_right, length-map, length-take, get_or-drop, All-get_or)

pub returns-in-len1 : goal.returns-in-len1
returns-in-len1 c = grind (arith, common_steps)

pub returns : goal.returns
returns c = grind (arith, common_steps)
