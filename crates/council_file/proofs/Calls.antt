-- The reads of a game file, one after the other.
use Rattle.std.proofs.Common.{◌≡◌, ◌<◌, ◌≤◌, ◌++◌, ℕ, List, [], Option, Result, Ok, Err, length, take, subst, sym, ap, ◌∙◌, append-nil, inl}
use Rattle.std.specs.declared.io.Error.{Error}
use Rattle.council_game.specs.declared.fault.GameFault.{GameFault, TheVariants.Read, TheVariants.Memory}
use Rattle.council_file.specs.{Inner.Reads.Given, Inner.Reads.IsStop, Reads.Reading, Reads.Reads}
use Rattle.council_file.specs.Reads.{gave, ended, refused, failed}

module _ {R : Type 0} (is_read : R → List ℕ → Result ℕ Error → R → List ℕ → Type 0) where
  pub reading-more : (r s last : R) (old new : List ℕ) (n : ℕ) (end : Result (List ℕ) GameFault) → length old ≤ 65536 → 0 < n
      → Given is_read r s old new n → Reading is_read s new end last → Reading is_read r old end last
  reading-more r s last old new n end few some given rest =
      gave r s last old given.buffer given.filled n end few given.read some (subst (λ b. Reading is_read s b end last) given.bytes rest)

  pub reading-ended : (r s : R) (old new : List ℕ) (n : ℕ) → n ≡ 0 → length old ≤ 65536 → Given is_read r s old new n
      → Reading is_read r old (Ok new) s
  reading-ended r s old new n none few given =
      let same : new ≡ old = given.bytes ∙ ap (λ (k : ℕ). old ++ take k given.filled) none ∙ append-nil old in
      subst (λ b. Reading is_read r old (Ok b) s) (sym same)
      (ended r s old given.buffer given.filled few (subst (λ (k : ℕ). is_read r given.buffer (Ok k) s given.filled) none given.read) given.room)

  -- a read failed, or memory ran out
  pub reading-stops : (left : R → Option (List ℕ)) (first r s : R) (bytes : List ℕ) (fault : GameFault) → length bytes ≤ 65536
      → ((end : Result (List ℕ) GameFault) (last : R) → Reading is_read r bytes end last → Reading is_read first [] end last)
      → IsStop is_read r s fault → Reads left is_read first s (Err fault)
  reading-stops left first r s bytes Read few goes-on h = goes-on (Err Read) s (failed r s bytes h.0 h.1 h.2 few h.3)
  reading-stops left first r s bytes Memory few goes-on h = inl (goes-on (Err Memory) s (refused r s bytes h.0 h.1 h.2 few h.3))
  reading-stops left first r s bytes fault few goes-on h = absurd h
