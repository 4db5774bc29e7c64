use Rattle.std.proofs.Common.{◌≡◌, map, take}
use Rattle.council_c.specs.Masks.{mask_of}
use Rattle.council_c.proofs.masks.masks_of.Given as goal

abbrev pub invariant-loop-coalition : goal.invariant-loop-coalition
invariant-loop-coalition l = l.masks.items ≡ map (mask_of l.game) (take l.coalition-index l.list)
