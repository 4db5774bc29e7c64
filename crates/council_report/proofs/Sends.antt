-- One call to a writer, and then the others.
use Rattle.council_report.proofs.Imports.{◌≡◌, ◌<◌, ◌+◌, ◌-◌, ◌++◌, [], ℕ, List, length, take, drop, Result, Ok, Err, sym, subst}
use Rattle.council_report.proofs.Imports.{arith, cases_lt, false, inl, inr, nat_tests, take_all, true}
use Rattle.std.proofs.Common.{length-drop}
use Rattle.std.proofs.lemmas.List.{drop-drop}
use Rattle.std.specs.declared.io.Error.{Error}
use Rattle.std.specs.Prelude.{nat_lt}
use Rattle.council_report.specs.{Inner.Writing.IsBlock, Inner.Writing.Takes, Inner.Written.EndsAfter}
use Rattle.council_report.specs.Sending.{Sending, begins, takes, takes_none, fails}

-- the bytes from one on
pub bytes-from : (bytes : List ℕ) (n : ℕ) → take (length bytes - n) (drop n bytes) ≡ drop n bytes
bytes-from bytes n = take_all (length bytes - n) (drop n bytes) (omega (arith, length-drop n bytes))

-- a result after which no call is made
abbrev pub IsEnd : Result ℕ Error → Type 0
IsEnd (Ok n) = n ≡ 0
IsEnd (Err e) = Unit {0}

module _ {W : Type 0} (is_write : W → List ℕ → Result ℕ Error → W → Type 0) (is_flush : W → Result (Unit {0}) Error → W → Type 0) where
  -- a write took n bytes more
  pub takes-more : (w v last : W) (bytes rest : List ℕ) (written n count : ℕ) (end : Result ℕ ℕ) → 0 < n
      → is_write w (take (length bytes - written) (drop written bytes)) (Ok n) v
      → Sending is_write is_flush v (drop (written + n) bytes) rest (count + (written + n)) end last
      → Sending is_write is_flush w (drop written bytes) rest (count + written) end last
  takes-more w v last bytes rest written n count end some is next =
      let same : count + (written + n) ≡ count + written + n = omega arith in
      takes w v last (drop written bytes) rest (count + written) n end
      (subst (λ (b : List ℕ). is_write w b (Ok n) v) (bytes-from bytes written) is) some
      (subst (λ (b : List ℕ). Sending is_write is_flush v b rest (count + written + n) end last) (sym (drop-drop n written bytes))
      (subst (λ (k : ℕ). Sending is_write is_flush v (drop (written + n) bytes) rest k end last) same next))

  -- a write took none, or failed
  pub takes-no-more : (w last : W) (bytes rest : List ℕ) (written count : ℕ) (result : Result ℕ Error) → IsEnd result → written < length bytes
      → is_write w (take (length bytes - written) (drop written bytes)) result last
      → Sending is_write is_flush w (drop written bytes) rest (count + written) (Err (count + written)) last
  takes-no-more w last bytes rest written count (Ok n) none more is =
      takes_none w last (drop written bytes) rest (count + written) (omega (arith, length-drop written bytes))
      (subst (λ (k : ℕ). is_write w (drop written bytes) (Ok k) last) none
      (subst (λ (b : List ℕ). is_write w b (Ok n) last) (bytes-from bytes written) is))
  takes-no-more w last bytes rest written count (Err e) none more is =
      fails w last (drop written bytes) rest (count + written) e (omega (arith, length-drop written bytes))
      (subst (λ (b : List ℕ). is_write w b (Err e) last) (bytes-from bytes written) is)

  -- a block went out: all of it, or as far as the writer took it
  pub drained : (first now : W) (bytes : List ℕ) (written n : ℕ) → Takes (Sending is_write is_flush) bytes first now n
      → (rest : List ℕ) (end : Result ℕ ℕ) (last : W) → IsBlock bytes rest
      → EndsAfter (Sending is_write is_flush) (nat_lt n (length bytes)) now rest (written + n) end last
      → Sending is_write is_flush first [] (bytes ++ rest) written end last
  drained first now bytes written n part rest end last block next =
      elim (cases_lt n (length bytes)) [
        | inl less ↦
            let stops : nat_lt n (length bytes) ≡ true = grind (arith, nat_tests) in
            let is : (end ≡ Err (written + n)) × (last ≡ now) = rw stops at next in
            subst (λ (e : Result ℕ ℕ). Sending is_write is_flush first [] (bytes ++ rest) written e last) (sym is.0)
            (subst (λ (l : W). Sending is_write is_flush first [] (bytes ++ rest) written (Err (written + n)) l) (sym is.1)
            (begins first now bytes rest written (Err (written + n)) block (part.part less rest written)))
        | inr all ↦
            let goes : nat_lt n (length bytes) ≡ false = grind (arith, nat_tests) in
            begins first last bytes rest written end block (part.all (omega (arith, part.within, all)) rest written end last (rw goes at next))
      ]
