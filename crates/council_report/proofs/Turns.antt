-- A row of texts told one after another: one more.
use Rattle.council_report.proofs.Imports.{◌≡◌, ◌<◌, ◌≤◌, ◌+◌, ◌^◌, ◌++◌, ℕ, List, length, get_or, take, sym, ap, ◌∙◌, subst}
use Rattle.council_report.proofs.Imports.{range_with_len, flat_map-append, common_steps, take_all, [], ◌∷◌}
use Rattle.council_report.proofs.Imports.{get_or-range_with_len, length-range_with_len, nat_tests, Progress, Advances, Calls, count_of, arith, flat_map}
use Rattle.council_report.proofs.Imports.{append-nil}
use Rattle.std.proofs.lemmas.List.{take_more, Folds.length-flat_map-take}
use Rattle.council_report.proofs.Telling.{tells-then}

-- with one more
pub rows-more : {X : Type 0} (f : X → List ℕ) (xs : List X) (x : X) → flat_map f (xs ++ x ∷ []) ≡ flat_map f xs ++ f x
rows-more f xs x = flat_map-append f xs (x ∷ []) ∙ ap (λ (t : List ℕ). flat_map f xs ++ t) (append-nil (f x))

-- x is number i of a row
pub record IsNext {X : Type 0} (xs : List X) (i : ℕ) (x : X) : Type 0 where
  pub below : i < length xs
  pub is : x ≡ get_or xs i x

-- the numbers from a on
pub next-number : (a n k j : ℕ) → a + k ≡ j → k < n → IsNext (range_with_len a n) k j
next-number a n k j is below = record { below = rw length-range_with_len below; is = sym (get_or-range_with_len a n k j below ∙ is) }

-- the texts of the first i, and that of the next
with-next : {X : Type 0} (f : X → List ℕ) {xs : List X} {i : ℕ} {x : X} → IsNext xs i x
    → flat_map f (take (i + 1) xs) ≡ flat_map f (take i xs) ++ f x
with-next f {xs} {i} {x} next = grind (arith, nat_tests, common_steps, take_more, rows-more)

-- all of the numbers from a on
all-numbers : (f : ℕ → List ℕ) (from n i : ℕ) → n ≤ i → flat_map f (take i (range_with_len from n)) ≡ flat_map f (range_with_len from n)
all-numbers f from n i le = grind (arith, nat_tests, take_all, length-range_with_len)

module _ {W : Type 0} (S : Calls W) {X : Type 0} (f : X → List ℕ) where
  pub turn-told : {a b c : Progress W} {xs : List X} {i : ℕ} {x : X} → IsNext xs i x → Advances S a b (flat_map f (take i xs))
      → Advances S b c (f x) → Advances S a c (flat_map f (take (i + 1) xs))
  turn-told {a} {b} {c} next before more = subst (Advances S a c) (sym (with-next f next)) (tells-then S a b c _ _ before more)

  -- the number of bytes told so far and of the next text is no greater than with all the texts
  pub turn-counts : {a b : Progress W} {xs : List X} {i : ℕ} {x : X} → IsNext xs i x → Advances S a b (flat_map f (take i xs))
      → count_of a + length (flat_map f xs) < 2 ^ 64 → count_of b + length (f x) < 2 ^ 64
  turn-counts {a} {b} {xs} {i} {x} next before few =
      omega (arith, before.count, length-flat_map-take f xs i x next.below, ap (λ (y : X). length (f y)) next.is, few)

pub numbers-told : {W : Type 0} (S : Calls W) {a b : Progress W} (f : ℕ → List ℕ) (from n i : ℕ) → n ≤ i
    → Advances S a b (flat_map f (take i (range_with_len from n))) → Advances S a b (flat_map f (range_with_len from n))
numbers-told S {a} {b} f from n i le tells = subst (Advances S a b) (all-numbers f from n i le) tells
