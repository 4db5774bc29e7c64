-- What a writer holds after the calls that a text takes.
use Rattle.std.proofs.lemmas.Bool.Decides.{nat_tests}
use Rattle.council_report.proofs.Imports.{◌≡◌, ◌≤◌, ◌+◌, ◌-◌, ◌++◌, ℕ, List, [], length, take, drop, Option, Some, None, Result, Ok, Err, ap}
use Rattle.council_report.proofs.Imports.{◌∙◌, sym, subst, arith, append_assoc, append-nil, length-append, Appends, take-append-add, take-append-drop, Advances, Block, Bool, Ends, Progress, false, progress_of}
use Rattle.std.proofs.Common.{length-drop, length-take-le}
use Rattle.std.specs.{Io.WritesAtMost, Io.KnownBytes.Keeps, Io.KnownBytes.WriteAppends, declared.io.Error.Error}
use Rattle.council_report.specs.{Inner.Writing.Finishes, Inner.Written.EndsAfter, Outcome.Writes, declared.fault.ReportFault.ReportFault}
use Rattle.council_report.specs.declared.fault.ReportFault.TheVariants.{Memory, Write}
use Rattle.council_report.specs.Sending.{Sending, begins, takes, takes_none, fails, flushed, flush_fails}

pub after-none : {a b c : List ℕ} → c ≡ a ++ b → a ≡ [] → c ≡ b
after-none {b = b} more none = more ∙ ap (λ (t : List ℕ). t ++ b) none

appends-then : (a b c : Option (List ℕ)) (x y : List ℕ) → Appends a b x → Appends b c y → Appends a c (x ++ y)
appends-then None b c x y first next = tt
appends-then (Some xs) None c x y first next = absurd first
appends-then (Some xs) (Some ys) None x y first next = absurd next
appends-then (Some xs) (Some ys) (Some zs) x y first next = next ∙ ap (λ (t : List ℕ). t ++ y) first ∙ append_assoc xs x y

appends-none : (a b : Option (List ℕ)) → Keeps a b → Appends a b []
appends-none None b keeps = tt
appends-none (Some xs) None keeps = absurd keeps
appends-none (Some xs) (Some ys) keeps = keeps ∙ sym (append-nil xs)

-- the writer holds the text, or so many bytes of it as it says
abbrev HoldsEnd : Option (List ℕ) → Option (List ℕ) → List ℕ → ℕ → Result ℕ ℕ → Type 0
HoldsEnd before after text count (Ok all) = (all ≡ count + length text) × Appends before after text
HoldsEnd before after text count (Err some) = (count ≤ some) × (some ≤ count + length text) × Appends before after (take (some - count) text)

-- no more bytes were taken
holds-none : (before after : Option (List ℕ)) (text : List ℕ) (count : ℕ) → Appends before after [] → HoldsEnd before after text count (Err count)
holds-none before after text count same = grind (arith, nat_tests, take)

-- n bytes of a block were taken, and then what follows
holds-more : (a b c : Option (List ℕ)) (block rest : List ℕ) (count n : ℕ) (end : Result ℕ ℕ) → n ≤ length block → Appends a b (take n block)
    → HoldsEnd b c (drop n block ++ rest) (count + n) end → HoldsEnd a c (block ++ rest) count end
holds-more a b c block rest count n end few first next =
    let whole : take n block ++ (drop n block ++ rest) ≡ block ++ rest =
    sym (append_assoc (take n block) (drop n block) rest) ∙ ap (λ (t : List ℕ). t ++ rest) (take-append-drop n block) in
    let long : length block ≡ n + length (drop n block) = omega (arith, length-drop n block, few) in
    let sizes : length (block ++ rest) ≡ n + length (drop n block ++ rest) = grind (arith, nat_tests, length-append, drop) in
    elim end as (λ (e : Result ℕ ℕ). HoldsEnd b c (drop n block ++ rest) (count + n) e → HoldsEnd a c (block ++ rest) count e) [
      | Ok all ↦ λ h. (
        omega (arith, h.0, sizes),
        subst (Appends a c) whole (appends-then a b c (take n block) (drop n block ++ rest) first h.1),
      )
      | Err some ↦ λ h.
          let k : some - count ≡ n + (some - (count + n)) = omega (arith, h.0) in
          let front : take (some - count) (block ++ rest) ≡ take n block ++ take (some - (count + n)) (drop n block ++ rest) =
          ap (λ (m : ℕ). take m (block ++ rest)) (k ∙ ap (λ (m : ℕ). m + (some - (count + n))) (sym (length-take-le n block few)))
          ∙ ap (take (length (take n block) + (some - (count + n)))) (sym whole)
          ∙ take-append-add (take n block) (drop n block ++ rest) (some - (count + n)) in (
            omega (arith, h.0),
            omega (arith, h.1, sizes),
            subst (Appends a c) (sym front)
                (appends-then a b c (take n block) (take (some - (count + n)) (drop n block ++ rest)) first h.2),
          )
    ] next

module _ {W : Type 0} (held : W → Option (List ℕ)) (is_write : W → List ℕ → Result ℕ Error → W → Type 0)
    (is_flush : W → Result (Unit {0}) Error → W → Type 0)
    (writes : (old new : W) (bytes : List ℕ) (result : Result ℕ Error) → is_write old bytes result new
    → WritesAtMost result bytes × WriteAppends (held old) (held new) result bytes)
    (flushes : (old new : W) (result : Result (Unit {0}) Error) → is_flush old result new → Keeps (held old) (held new)) where
  pub sent : {w last : W} {block rest : List ℕ} {count : ℕ} {end : Result ℕ ℕ} → Sending is_write is_flush w block rest count end last
      → HoldsEnd (held w) (held last) (block ++ rest) count end
  sent (begins w last block rest count end is next) = sent next
  sent (takes w v last block rest count n end is some next) =
      let law = writes w v block (Ok n) is in
      holds-more (held w) (held v) (held last) block rest count n end law.0 law.1 (sent next)
  sent (takes_none w last block rest count some is) =
      holds-none (held w) (held last) (block ++ rest) count (writes w last block (Ok 0) is).1
  sent (fails w last block rest count e some is) =
      holds-none (held w) (held last) (block ++ rest) count (appends-none (held w) (held last) (writes w last block (Err e) is).1)
  sent (flushed w last count is) = (omega arith, appends-none (held w) (held last) (flushes w last (Ok tt) is))
  sent (flush_fails w last count e is) = holds-none (held w) (held last) [] count (appends-none (held w) (held last) (flushes w last (Err e) is))

  -- how a report ended that began with what a fresh block holds
  pub written-whole : (first last : W) (block : Block) (at : Progress W) (heading lines : List ℕ) (r : Result ℕ ReportFault) → block.written ≡ 0
      → block.stopped ≡ false → block.bytes.items ≡ heading → Advances (Sending is_write is_flush) (progress_of first block) at lines
      → Finishes (Sending is_write is_flush) at last r → Writes held is_write is_flush (heading ++ lines) first last r
  written-whole first last block at heading lines r none on is tells finishes =
      let text : List ℕ = heading ++ lines in
      let calls : (end : Result ℕ ℕ) → Ends (Sending is_write is_flush) at [] end last → Sending is_write is_flush first [] text 0 end last =
      λ end h. subst (λ (t : List ℕ). Sending is_write is_flush first [] t 0 end last)
      (ap (λ (t : List ℕ). block.bytes.items ++ t) (append-nil lines) ∙ ap (λ (t : List ℕ). t ++ lines) is)
      (subst (λ (n : ℕ). Sending is_write is_flush first [] (block.bytes.items ++ (lines ++ [])) n end last) none
      (subst (λ (s : Bool). EndsAfter (Sending is_write is_flush) s first (block.bytes.items ++ (lines ++ [])) block.written end last) on
      (tells.ends [] end last h))) in
      elim r as (λ (r : Result ℕ ReportFault). Finishes (Sending is_write is_flush) at last r → Writes held is_write is_flush text first last r) [
        | Ok n ↦ λ h.
            let all = sent (calls (Ok n) h) in (omega (arith, all.0), all.1, calls (Ok n) h)
        | Err Memory ↦ λ h. absurd h
        | Err (Write n) ↦ λ h.
            let some = sent (calls (Err n) h) in
            let all : n - 0 ≡ n = omega arith in
            (omega (arith, some.1), subst (λ (k : ℕ). Appends (held first) (held last) (take k text)) all some.2, calls (Err n) h)
      ] finishes
