-- What stays in front, if a further text is put after it.
use Rattle.std.proofs.Common.{◌≡◌, ℕ, List, ◌++◌, ◌∙◌, append_assoc, Result, Ok, Err, OnErr, arith}
use Rattle.council_game.specs.Front.{StaysInFront}

pub further : (start : List ℕ) {now new : List ℕ} (text : List ℕ) → StaysInFront start now → new ≡ now ++ text → StaysInFront start new
further start {now} {new} text front put = grind (arith, append_assoc)

pub still : (start : List ℕ) {now new : List ℕ} → StaysInFront start now → new ≡ now → StaysInFront start new
still start front same = (front.0, same ∙ front.1)

pub on-err : {T E P : Type 0} (r : Result T E) → P → OnErr r P
on-err (Ok t) holds = tt
on-err (Err e) holds = holds
