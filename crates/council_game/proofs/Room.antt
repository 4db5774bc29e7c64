-- Room that stays, and a text that is refused after others.
use Rattle.std.proofs.Common.{◌≡◌, ◌≤◌, ◌+◌, ◌++◌, ℕ, List, length, Vec, Result, Ok, Err, ap, arith, length-append, Global, vec_capacity}
use Rattle.council_game.specs.Room.{MakesRoomFor}

-- equal vectors have the same room
pub room-is : {v w : Vec ℕ Global} → v ≡ w → vec_capacity v ≡ vec_capacity w
room-is same = ap (λ (v : Vec ℕ Global). vec_capacity v) same

-- if y is refused after x was put, so is each text that is no shorter than both
pub takes-not : {E F : Type 0} {old now new : Vec ℕ Global} {r : Result (Unit {0}) E} {e : F} {y z : List ℕ} (x : List ℕ)
    → MakesRoomFor now new (Err e) y → vec_capacity old ≤ vec_capacity now → now.items ≡ old.items ++ x → length x + length y ≤ length z
    → MakesRoomFor old new r z
takes-not {r = Ok u} x refused kept items within = record { capacity = omega (arith, kept, refused.capacity); full = tt }
takes-not {old} {r = Err d} x refused kept items within = grind (arith, length-append)
