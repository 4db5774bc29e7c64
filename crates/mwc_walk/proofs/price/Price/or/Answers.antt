use Rattle.mwc_walk.proofs.{Prices.price-falls, Prices.price-stays, Imports.refl}
use Rattle.mwc_walk.proofs.price.Price.or.Goals as goal

pub returns-then-is_above : goal.returns-then-is_above
returns-then-is_above c f g d is = price-falls _ _ _ f g d (c.if-is_above.ensures.some refl) (c.if-is_above.ensures.less refl) is

pub returns-else-is_above : goal.returns-else-is_above
returns-else-is_above c f g d is = price-stays _ _ _ f g d (c.if-is_above.ensures.more refl) (c.if-is_above.ensures.none refl) is
