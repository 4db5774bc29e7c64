-- Words that go into a pipe, the first of a row.
use Rattle.mwc_gather.proofs.Imports.{arith, ◌≡◌, ℕ, List, [], ◌++◌, take, drop, refl, sym, ap, ◌∙◌, append-nil, common_steps, IsPrefix}
use Rattle.mwc_gather.proofs.Imports.{append_assoc, Word, SendsFirst, SendsSome}

-- nothing of a row was sent
pub none_sent : (before row : List Word) → SendsFirst before row before row
none_sent before row = ([], sym (append-nil before), refl)

-- more of the rest was sent
pub first_more : (before row mid rest after : List Word) (k : ℕ) → SendsFirst before row mid rest → after ≡ mid ++ take k rest
    → SendsFirst before row after (drop k rest)
first_more before row mid rest after k s e = grind (arith, common_steps)

-- all of the rest was sent
pub first_all : (before row mid rest after : List Word) → SendsFirst before row mid rest → after ≡ mid ++ rest → after ≡ before ++ row
first_all before row mid rest after s e = grind (arith, append_assoc)

-- words were added to the rest
pub first_added : (before row mid rest more after left : List Word) → SendsFirst before row mid rest
    → SendsFirst mid (rest ++ more) after left → SendsFirst before (row ++ more) after left
first_added before row mid rest more after left s t = grind (arith, common_steps)

-- some of a row is some of a longer one, and some of the rest is some of the row
pub some_of_more : (before row after more : List Word) → SendsSome before row after → SendsSome before (row ++ more) after
some_of_more before row after more s =
    (s.0 ++ more, (s.1.0, s.1.1, sym (append_assoc s.1.0 s.0 more) ∙ ap (λ (w : List Word). w ++ more) s.1.2))

pub some_later : (before row mid rest after : List Word) → SendsFirst before row mid rest → SendsSome mid rest after
    → SendsSome before row after
some_later before row mid rest after s t = (
  t.0,
  (
    s.0 ++ t.1.0,
    t.1.1 ∙ ap (λ (w : List Word). w ++ t.1.0) s.1 ∙ append_assoc before s.0 t.1.0,
    append_assoc s.0 t.1.0 t.0 ∙ ap (λ (w : List Word). s.0 ++ w) t.1.2 ∙ s.2,
  ),
)

-- some of the rest of a row that is a beginning of a sending is a beginning too
pub some_starts : (before row mid rest after all : List Word) → SendsFirst before row mid rest → SendsSome mid rest after → IsPrefix row all
    → (words : List Word) × (after ≡ before ++ words) × IsPrefix words all
some_starts before row mid rest after all s t p = grind (arith, common_steps)
