-- The tables of the walk, one lane for each rule.
use Rattle.std.specs.Prelude.{ℕ, ◌+◌, ◌-◌, List, [], Bool, nat_le, slice_index, slice_index_or}
use Rattle.mwc_walk.specs.declared.lane.Lane.{Lane}

abbrev pub no_lane : Lane
no_lane = record { quota = 0; sum = 0; weightless = 0; lightest = []; weights = []; rest = [] }

abbrev pub lane_at : List Lane → ℕ → Lane
lane_at ls i = slice_index_or ls i no_lane

-- with what may still come from place p on, the quota can be met
abbrev pub lane_reaches : ℕ → Lane → Bool
lane_reaches p l = nat_le (l.quota - l.sum) (slice_index l.rest p)

abbrev pub lane_wins : Lane → Bool
lane_wins l = nat_le l.quota l.sum

abbrev pub lane_with : ℕ → Lane → Lane
lane_with p l = record l { sum = l.sum + slice_index l.weights p }

abbrev pub lane_without : ℕ → Lane → Lane
lane_without p l = record l { sum = l.sum - slice_index l.weights p }
