-- The words of a slice as far as they were sent.
use Rattle.mwc_gather.proofs.Imports.{◌≡◌, ℕ, ◌+◌, ◌<◌, ◌≤◌, Bool, true, false, List, [], ◌∷◌, ◌++◌, length, map, take, refl, IsPrefix, ap}
use Rattle.mwc_gather.proofs.Imports.{arith, append_assoc, sym, ◌∙◌, nat_tests, append-nil, map-append, Word, Open, One, Done, Slicing}
use Rattle.mwc_gather.proofs.Imports.{slice_words, cut_words, sending, ◌-◌, if◌then◌else◌}
use Rattle.std.proofs.{Common.nat_lt, Math.Seq.take-append-add}

module _ {W : Type 0} (one : ℕ → W) where
  -- what was sent is a beginning of all words
  pub starts : (first last : W) (slice given rest : List ℕ) → slice ≡ given ++ rest
      → IsPrefix (first ∷ map one given) ((first ∷ map one slice) ++ last ∷ [])
  starts first last slice given rest e =
      let mapped : map one slice ≡ map one given ++ map one rest = ap (map one) e ∙ map-append one given rest in (
        map one rest ++ last ∷ [],
        ap (λ (w : List W). first ∷ w)
            (sym (append_assoc (map one given) (map one rest) (last ∷ [])) ∙ ap (λ (w : List W). w ++ last ∷ []) (sym mapped)),
      )

-- what was sent of a slice that is cut later is a beginning of the words up to the cut
starts_cut : (g : Slicing) (j left : ℕ) (given rest : List ℕ) → g.slice j ≡ given ++ rest → length given ≤ left
    → IsPrefix (Open j ∷ map One given) (cut_words g j left)
starts_cut g j left given rest e l =
    let n : ℕ = left - length given in
    let sum : left ≡ length given + n = omega arith in
    let first : take left (g.slice j) ≡ given ++ take n rest = grind (arith, take-append-add) in
    (map One (take n rest), ap (λ (w : List Word). Open j ∷ w) (sym (map-append One given (take n rest)) ∙ ap (map One) (sym first)))

-- what was sent of a slice before it is cut is a beginning of its sending
starts_by : (g : Slicing) (j left : ℕ) (given rest : List ℕ) (b : Bool) → nat_lt (length (g.slice j)) left ≡ b → g.slice j ≡ given ++ rest
    → length given ≤ left → IsPrefix (Open j ∷ map One given) (if b then slice_words g j else cut_words g j left)
starts_by g j left given rest true b e l = starts One (Open j) (Done j) (g.slice j) given rest e
starts_by g j left given rest false b e l = starts_cut g j left given rest e l

pub starts_sending : (g : Slicing) (j left : ℕ) (given rest : List ℕ) → g.slice j ≡ given ++ rest → length given ≤ left
    → IsPrefix (Open j ∷ map One given) (sending g j left)
unfolding sending
starts_sending g j left given rest e l = starts_by g j left given rest (nat_lt (length (g.slice j)) left) refl e l

whole_by : (g : Slicing) (j left : ℕ) (b : Bool) → nat_lt (length (g.slice j)) left ≡ b → length (g.slice j) < left
    → IsPrefix (slice_words g j) (if b then slice_words g j else cut_words g j left)
whole_by g j left true e l = ([], append-nil (slice_words g j))
whole_by g j left false e l = absurd (grind (arith, nat_tests))

-- the words of a whole slice are its sending
pub whole_starts : (g : Slicing) (j left : ℕ) → length (g.slice j) < left → IsPrefix (slice_words g j) (sending g j left)
unfolding sending
whole_starts g j left short = whole_by g j left (nat_lt (length (g.slice j)) left) refl short
