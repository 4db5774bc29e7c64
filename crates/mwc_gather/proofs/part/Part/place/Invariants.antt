use Rattle.mwc_gather.proofs.Imports.{◌≡◌, take, times_in}
use Rattle.mwc_gather.proofs.part.Part.place.Given as goal

abbrev pub invariant-loop-m : goal.invariant-loop-m
invariant-loop-m l = times_in l.slice (take l.m l.self.slices.items) ≡ 0
