use Rattle.mwc_walk.proofs.Imports.{arith, ◌-◌, ◌+◌, take, drop, weight, IsPrice, length-set, Price}
use Rattle.mwc_walk.proofs.{Prices.weight-past, Prices.price-step, Rules.set-keeps}
use Rattle.mwc_walk.proofs.price.Prices.new.Goals as goal

pub loop-place-init : goal.loop-place-init
loop-place-init c = grind (arith, weight-past)

pub loop-place-preserved : goal.loop-place-preserved
loop-place-preserved c =
    let own = c.args.own.now in
    let other = c.args.other.now in
    let n = c.args.members in
    let before = c.loop-place.place - 1 in
    record {
      long = omega (arith, length-set c.loop-place.from before c.or.result);
      made = λ p d from to.
          set-keeps (λ i (price : Price). IsPrice price (weight (drop i (take n other)) d) (weight (drop i (take n own)) d))
          c.loop-place.from before p c.or.result (record { own = 0; other = 0 }) (omega arith)
          (price-step n before own other _ _ (omega arith) (omega arith) (omega arith) c.or.ensures d
          (c.loop-place.invariant.made (before + 1) d (omega arith) (omega arith)))
          (λ past. c.loop-place.invariant.made p d (omega (arith, past)) to);
    }
