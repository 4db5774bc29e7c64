-- A slice on its way into a pipe.
use Rattle.mwc_gather.proofs.Imports.{◌+◌, ◌<◌, ◌≤◌, List, [], ◌∷◌, ◌++◌, length, map, take, IsPrefix, ap, subst, arith, cut_words, sending}
use Rattle.mwc_gather.proofs.Imports.{append_assoc, sym, ◌∙◌, append-nil, map-append, Word, Open, One, Done, Slicing, slice_words, ◌≡◌, ℕ}
use Rattle.mwc_gather.proofs.Imports.{SendsFirst, SendsSome, length-append}
use Rattle.std.proofs.Math.Seq.{take-append_seam}
use Rattle.mwc_gather.proofs.Slices.{starts_sending, whole_starts}
use Rattle.mwc_gather.proofs.FirstWords.{none_sent, first_added, first_all, some_starts}

-- of slice j, which has these coalitions, of which `wanted` are wanted, some are given and `left`
-- may still be; their words went into the pipe but for the buffer
pub record UnderWay (all : List ℕ) (j wanted left : ℕ) (before : List Word) (to_come : List ℕ) (out row : List Word) : Type 0 where
  pub given : List ℕ
  pub split : all ≡ given ++ to_come
  pub count : left + length given ≡ wanted
  pub first : SendsFirst before (Open j ∷ map One given) out row

module _ {all : List ℕ} {j wanted left : ℕ} {before : List Word} where
  -- one more coalition is given
  pub one_more : {next : ℕ} {to_come rest : List ℕ} {out row mid new : List Word} (c : ℕ)
      → UnderWay all j wanted left before to_come out row
      → to_come ≡ c ∷ rest → next + 1 ≡ left → SendsFirst out (row ++ One c ∷ []) mid new → UnderWay all j wanted next before rest mid new
  one_more {next} {to_come} {rest} {out} {row} {mid} {new} c u e n s =
      let longer : length (u.given ++ c ∷ []) ≡ length u.given + 1 = length-append u.given (c ∷ []) in
      let count = u.count in
      let first = first_added before (Open j ∷ map One u.given) out row (One c ∷ []) mid new u.first s in record {
        given = u.given ++ c ∷ [];
        split = u.split ∙ ap (λ r. u.given ++ r) e ∙ sym (append_assoc u.given (c ∷ []) rest);
        count = omega arith;
        first = (first.0, first.1, first.2 ∙ ap (λ (w : List Word). Open j ∷ w) (sym (map-append One u.given (c ∷ []))));
      }

  -- the pipe took some of the row, and no more
  pub takes_some : {to_come : List ℕ} {out row after : List Word} (g : Slicing) → g.slice j ≡ all
      → UnderWay all j wanted left before to_come out row → SendsSome out row after
      → (words : List Word) × (after ≡ before ++ words) × IsPrefix words (sending g j wanted)
  takes_some {to_come} {out} {row} {after} g e u some =
      let count = u.count in
      some_starts before (Open j ∷ map One u.given) out row after (sending g j wanted) u.first some
      (starts_sending g j wanted u.given to_come (e ∙ u.split) (omega arith))

  -- as many as are wanted were sent
  pub sent_cut : {to_come : List ℕ} {out row after : List Word} (g : Slicing) → g.slice j ≡ all
      → UnderWay all j wanted left before to_come out row → left ≡ 0 → after ≡ out ++ row
      → (after ≡ before ++ cut_words g j wanted) × (wanted ≤ length (g.slice j))
  sent_cut {to_come} {out} {row} {after} g e u none sent =
      let count = u.count in
      let sum : length (g.slice j) ≡ length u.given + length to_come = ap length (e ∙ u.split) ∙ length-append u.given to_come in
      let some : wanted ≡ length u.given = omega arith in
      let taken = ap (λ (k : ℕ). take k (g.slice j)) some ∙ ap (take (length u.given)) (e ∙ u.split) ∙ take-append_seam u.given to_come in (
        first_all before (Open j ∷ map One u.given) out row after u.first sent
            ∙ ap (λ (w : List ℕ). before ++ (Open j ∷ map One w)) (sym taken),
        omega arith,
      )

  -- with the word that ends it, if nothing is to come
  whole_row : {out row : List Word} (g : Slicing) → g.slice j ≡ all → UnderWay all j wanted left before [] out row
      → SendsFirst before (slice_words g j) out (row ++ Done j ∷ [])
  whole_row {out} {row} g e u =
      let whole : g.slice j ≡ u.given = e ∙ u.split ∙ append-nil u.given in
      subst (λ (w : List ℕ). SendsFirst before ((Open j ∷ map One w) ++ Done j ∷ []) out (row ++ Done j ∷ [])) (sym whole)
      (first_added before (Open j ∷ map One u.given) out row (Done j ∷ []) out (row ++ Done j ∷ []) u.first (none_sent out (row ++ Done j ∷ [])))

  short : {out row : List Word} (g : Slicing) → g.slice j ≡ all → UnderWay all j wanted left before [] out row
      → left + length (g.slice j) ≡ wanted
  short g e u =
      let count = u.count in
      let whole = ap length (e ∙ u.split ∙ append-nil u.given) in omega arith

  pub takes_some_at_end : {out row after : List Word} (g : Slicing) → g.slice j ≡ all → UnderWay all j wanted left before [] out row
      → 0 < left → SendsSome out (row ++ Done j ∷ []) after
      → (words : List Word) × (after ≡ before ++ words) × IsPrefix words (sending g j wanted)
  takes_some_at_end {out} {row} {after} g e u more some =
      let count = short g e u in
      some_starts before (slice_words g j) out (row ++ Done j ∷ []) after (sending g j wanted) (whole_row g e u) some
      (whole_starts g j wanted (omega arith))

  pub sent_whole : {out row after : List Word} (g : Slicing) → g.slice j ≡ all → UnderWay all j wanted left before [] out row
      → 0 < left → after ≡ out ++ (row ++ Done j ∷ [])
      → (after ≡ before ++ slice_words g j) × (length (g.slice j) < wanted) × (left + length (g.slice j) ≡ wanted)
  sent_whole {out} {row} {after} g e u more sent =
      let count = short g e u in
      (first_all before (slice_words g j) out (row ++ Done j ∷ []) after (whole_row g e u) sent, omega arith, count)
