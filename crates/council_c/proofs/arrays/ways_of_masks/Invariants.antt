use Rattle.std.proofs.Common.{◌≡◌, filter, map, nat_lt, take}
use Rattle.council_game.specs.Rules.{way_views}
use Rattle.council_c.specs.Arrays.{rules_of_mask}
use Rattle.council_c.proofs.arrays.ways_of_masks.Given as goal

abbrev pub invariant-loop-mask : goal.invariant-loop-mask
invariant-loop-mask l = way_views l.ways.items ≡ map rules_of_mask (filter (nat_lt 0) (take l.mask-index l.masks))
