-- Which ring an end is of.
use Rattle.std.specs.Prelude.{ℕ, List}

-- the numbers of the places where its words and its slots lie, and three numbers of the ring: the
-- two ends of one ring have the same
pub record RingName : Type 0 where
  pub words : List ℕ
  pub slots : List ℕ
  pub numbers : ℕ × (ℕ × ℕ)
