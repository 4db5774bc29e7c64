-- The room of a vector of bytes.
use Rattle.std.specs.Prelude.{◌+◌, ◌<◌, ◌≤◌, ℕ, List, length, OnErr, Result, Vec}
use Rattle.std.specs.Global.{Global}
use Rattle.std.specs.Vec.{vec_capacity}

-- its room stays or grows, and a text is refused only if it has no room for it
pub record MakesRoomFor {E : Type 0} (old new : Vec ℕ Global)
    (r : Result (Unit {0}) E) (text : List ℕ) : Type 0 where
  pub capacity : vec_capacity old ≤ vec_capacity new
  pub full : OnErr r (vec_capacity old < length old.items + length text)
