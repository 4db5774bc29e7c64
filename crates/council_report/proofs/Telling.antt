-- Texts told one after another, through a block that stays ready.
use Rattle.council_report.proofs.Imports.{◌≡◌, ◌≤◌, ◌++◌, ◌∙◌, ℕ, Bool, List, [], false, arith, ap, append_assoc, append-nil, common_steps, length, length-append, subst, sym}
use Rattle.council_report.proofs.Imports.{Advances, AppendsInRoom, Block, Calls, Ends, KeepsReady, Progress, progress_of}
use Rattle.council_report.specs.Inner.{Ready.CanCount, Ready.HasRoom, Ready.IsReady, Written.EndsAfter}

-- a line of 4096 bytes at most is put into a ready block
line-kept : {text : List ℕ} {old pushed : Block} → IsReady old → AppendsInRoom old pushed text → length text ≤ 4096 → pushed.refused ≡ false
line-kept ready takes short = takes.fits ready.kept (omega (arith, ready.room, ready.free, short))

-- the number of bytes told so far still fits
pub line-counts : (text : List ℕ) (old pushed : Block) → IsReady old → AppendsInRoom old pushed text → length text ≤ 4096 → CanCount old text
    → CanCount pushed []
line-counts text old pushed ready takes short few = grind (arith, common_steps, takes.adds.items (line-kept ready takes short))

module _ {W : Type 0} (S : Calls W) where
  pub tells-then : (a b c : Progress W) (x y : List ℕ) → Advances S a b x → Advances S b c y → Advances S a c (x ++ y)
  tells-then a b c x y first next = record {
    ends = λ rest end last h. subst (λ (t : List ℕ). Ends S a t end last) (sym (append_assoc x y rest))
        (first.ends (y ++ rest) end last (next.ends rest end last h));
    count = omega (arith, first.count, next.count, length-append x y);
  }

  -- a text at the end of the block
  tells-block : (writer : W) (a b : Block) (text : List ℕ) → AppendsInRoom a b text → b.bytes.items ≡ a.bytes.items ++ text
      → Advances S (progress_of writer a) (progress_of writer b) text
  tells-block writer a b text takes more = record {
    ends = λ rest end last h. subst (λ (t : List ℕ). EndsAfter S a.stopped writer t a.written end last)
        (ap (λ (t : List ℕ). t ++ rest) more ∙ append_assoc a.bytes.items text rest)
        (subst (λ (s : Bool). EndsAfter S s writer (b.bytes.items ++ rest) a.written end last) takes.adds.stopped
        (subst (λ (n : ℕ). EndsAfter S b.stopped writer (b.bytes.items ++ rest) n end last) takes.adds.written h));
    count = omega (arith, takes.adds.written, ap (λ (t : List ℕ). length t) more, length-append a.bytes.items text);
  }

  -- a line, in a block that is then made ready again
  pub puts-line : (text : List ℕ) (held now : W) (old pushed new : Block) → IsReady old → AppendsInRoom old pushed text
      → length text ≤ 4096 → Advances S (progress_of held pushed) (progress_of now new) []
      → (HasRoom pushed → pushed.refused ≡ false → IsReady new) → KeepsReady S (progress_of held old) now new text
  puts-line text held now old pushed new ready takes short settled again =
      let kept = line-kept ready takes short in
      let told = tells-block held old pushed text takes (takes.adds.items kept) in record {
        tells = subst (Advances S _ _) (append-nil text) (tells-then _ (progress_of held pushed) _ text [] told settled);
        ready = again (omega (arith, ready.room, takes.adds.capacity)) kept;
      }
