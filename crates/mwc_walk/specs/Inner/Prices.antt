-- What members weigh by one rule for what they weigh by another.
use Rattle.std.specs.Prelude.{ℕ, [], List, length, drop, ◌≡◌, ◌<◌, ◌≤◌, ◌*◌, slice_index_or}
use Rattle.council_game.specs.Votes.{Votes, rule_at, weight}
use Rattle.mwc_walk.specs.declared.price.Price.{Price}
use Rattle.mwc_walk.specs.declared.price.Prices.{Prices}
use Rattle.mwc_walk.specs.declared.price.PriceTable.{PriceTable}

abbrev pub price_at : Prices → ℕ → Price
price_at ps p = slice_index_or ps.from p (record { own = 0; other = 0 })

abbrev pub prices_at : List Prices → ℕ → Prices
prices_at row t = slice_index_or row t (record { from = [] })

-- members who weigh f by the other rule and g by the own keep to the price; without a price they
-- weigh nothing by the other
pub record IsPrice (price : Price) (f g : ℕ) : Type 0 where
  pub kept : price.own * f ≤ price.other * g
  pub none : price.other ≡ 0 → f ≡ 0

-- by rule i for what they weigh by rule t, the members from each place on keep to these prices
abbrev pub KeepTo : Votes → ℕ → ℕ → Prices → Type 0
KeepTo v i t ps = (p c : ℕ) → p ≤ v.members →
    IsPrice (price_at ps p) (weight (drop p (rule_at v.rules t).weights) c) (weight (drop p (rule_at v.rules i).weights) c)

-- the prices by rule i
pub record IsRow (v : Votes) (i : ℕ) (row : List Prices) : Type 0 where
  pub prices : (t : ℕ) → t < length v.rules → KeepTo v i t (prices_at row t)

-- those by each rule
pub record ArePrices (v : Votes) (table : PriceTable) : Type 0 where
  pub rows : (i : ℕ) → i < length v.rules → IsRow v i (slice_index_or table.by i [])
