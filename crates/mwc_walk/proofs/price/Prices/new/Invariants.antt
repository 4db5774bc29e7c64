use Rattle.mwc_walk.proofs.Imports.{◌≡◌, ◌≤◌, ℕ, length, take, drop, weight, IsPrice}
use Rattle.mwc_walk.specs.Inner.Prices.{price_at}
use Rattle.mwc_walk.proofs.price.Prices.new.Given as goal

abbrev pub invariant-loop-place : goal.invariant-loop-place
invariant-loop-place l = record {
  long : length l.from ≡ 41;
  made : (p c : ℕ) → l.place ≤ p → p ≤ l.members → IsPrice (price_at (record { from = l.from }) p)
      (weight (drop p (take l.members l.other)) c) (weight (drop p (take l.members l.own)) c);
}
