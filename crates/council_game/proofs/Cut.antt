-- A text that is short is not cut.
use Rattle.council_game.proofs.Imports.{◌≡◌, ◌≤◌, ℕ, List, length, refl}
use Rattle.std.proofs.Common.{le-leb}
unfoldable pub use Rattle.std.specs.Fmt.Cut.{cut_to}

pub cut_to_fits : (room : ℕ) (text : List ℕ) → length text ≤ room → cut_to room text ≡ text
unfolding cut_to
cut_to_fits room text fits = rw (le-leb (length text) room fits) refl
