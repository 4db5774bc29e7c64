-- Bytes that a reader gave, if all of them are known.
use Rattle.std.proofs.Common.{◌≡◌, ℕ, List, Option, Some, None, arith, append-nil, length-append, lt-ltb}
use Rattle.council_file.specs.{File.game_of, Reads.Gave}

pub known_bytes : (all bytes : List ℕ) (after : Option (List ℕ)) → Gave (Some all) after bytes → game_of bytes ≡ game_of all
unfolding game_of
known_bytes all bytes None h = absurd h.given
known_bytes all bytes (Some rest) h = grind (arith, append-nil, length-append, lt-ltb)
