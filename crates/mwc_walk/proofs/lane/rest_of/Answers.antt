use Rattle.mwc_walk.proofs.Imports.{arith, sym, ◌∙◌, get_or-set_at, get_or-set_other, length-set, refl, get_or-replicate}
use Rattle.mwc_walk.proofs.Rules.{sum-past, sum-from, drop-most}
use Rattle.mwc_walk.proofs.lane.rest_of.Goals as goal

pub loop-place-init : goal.loop-place-init
loop-place-init c = record {
  long = refl;
  made = λ fits q from to. get_or-replicate 41 q 0 0 (omega (arith, c.requires)) ∙ sym (sum-past c.args.weights.now c.args.members q from);
}

pub loop-place-preserved : goal.loop-place-preserved
loop-place-preserved c = grind (arith, get_or-set_at, get_or-set_other, length-set, sum-from, drop-most)
