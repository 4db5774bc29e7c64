use Rattle.mwc_walk.proofs.Imports.{◌≡◌, ◌<◌, ℕ, length, votes_of}
use Rattle.mwc_walk.specs.Inner.Prices.{KeepTo, prices_at}
use Rattle.mwc_walk.proofs.price.PriceTable.row.Given as goal

abbrev pub invariant-loop-other : goal.invariant-loop-other
invariant-loop-other l = record {
  long : length l.row ≡ 4;
  made : (t : ℕ) → t < l.other → KeepTo (votes_of l.game) l.rule t (prices_at l.row t);
}
