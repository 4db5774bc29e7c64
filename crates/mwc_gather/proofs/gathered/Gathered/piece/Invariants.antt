use Rattle.mwc_gather.proofs.Imports.{◌≡◌, take, sum_by, times_in, part_slices}
use Rattle.mwc_gather.proofs.gathered.Gathered.piece.Given as goal

abbrev pub invariant-loop-part : goal.invariant-loop-part
invariant-loop-part l = sum_by (times_in l.j) (part_slices (take l.part-index l.self.parts.items)) ≡ 0
