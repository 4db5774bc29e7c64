-- One read of a game file: what only proofs and private functions need.
use Rattle.std.specs.Prelude.{◌≡◌, ◌<◌, ℕ, List, length, take, Option, ◌++◌, Result, Ok, Err}
use Rattle.council_game.specs.declared.fault.GameFault.{GameFault}
use Rattle.council_game.specs.declared.fault.GameFault.TheVariants.{Read, Memory}
use Rattle.std.specs.Io.KnownBytes.{Consumes}
use Rattle.std.specs.declared.io.Error.{Error}

-- the vector grew by n bytes, which the reader gave
abbrev pub GrewBy : Option (List ℕ) → Option (List ℕ) → List ℕ → List ℕ → ℕ → Type 0
GrewBy before after old new n =
    (more : List ℕ) × Consumes before after more × (new ≡ old ++ more) × (length more ≡ n)

-- a read gave n bytes, which are now at the end of the others
pub record Given {R : Type 0} (is_read : R → List ℕ → Result ℕ Error → R → List ℕ → Type 0) (r s : R) (old new : List ℕ) (n : ℕ)
    : Type 0 where
  pub buffer : List ℕ
  pub filled : List ℕ
  pub read : is_read r buffer (Ok n) s filled
  pub room : 0 < length filled
  pub bytes : new ≡ old ++ take n filled

-- a read failed, or there was no memory for what it gave
abbrev pub IsStop : {R : Type 0} → (R → List ℕ → Result ℕ Error → R → List ℕ → Type 0) → R → R → GameFault → Type 0
IsStop is_read r s Read = (buffer : List ℕ) × (filled : List ℕ) × (e : Error) × is_read r buffer (Err e) s filled
IsStop is_read r s Memory = (buffer : List ℕ) × (filled : List ℕ) × (n : ℕ) × is_read r buffer (Ok n) s filled
IsStop is_read r s fault = ⊥
