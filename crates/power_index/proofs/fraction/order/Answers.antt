use Rattle.power_index.proofs.Imports.{◌≡◌, ◌≢◌, ◌/◌, ◌%◌, arith}
use Rattle.power_index.proofs.Ordered.{turned, decided}
use Rattle.power_index.proofs.fraction.order.Goals as goal

pub loop-x-preserved : goal.loop-x-preserved
loop-x-preserved c = grind (arith, turned)

stops : (c : goal.After-then) → c.loop-x.x.top / c.loop-x.x.bottom ≡ c.loop-x.y.top / c.loop-x.y.bottom
    → c.loop-x.x.top % c.loop-x.x.bottom ≢ 0 → c.loop-x.y.top % c.loop-x.y.bottom ≡ 0
stops c = grind arith

pub returns : goal.returns
returns c = grind (arith, decided, stops)
