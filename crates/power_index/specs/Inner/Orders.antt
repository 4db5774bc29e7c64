-- Orders of the members over a common denominator.
use Rattle.std.specs.Prelude.{ℕ, ◌-◌, ◌*◌, ◌/◌}
use Rattle.power_index.specs.Tables.{denominator}
use Rattle.power_index.specs.SwingIndices.{factorial}

-- the share, in all orders of n members, of those in which the k members of a set come first and a
-- given other one next, over the denominator
unfoldable pub order_share : ℕ → ℕ → ℕ
order_share n k = denominator * (factorial k * factorial (n - 1 - k)) / factorial n
