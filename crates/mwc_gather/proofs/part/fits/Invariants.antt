use Rattle.mwc_gather.proofs.Imports.{◌≡◌, ◌+◌, length, take, sum_by, Part}
use Rattle.mwc_gather.proofs.part.fits.Given as goal

abbrev pub invariant-loop-part : goal.invariant-loop-part
invariant-loop-part l = l.left + sum_by (λ (p : Part). length p.got.items) (take l.part-index l.parts) ≡ l.most
