-- Tests of the places of a range that pass another test.
use Rattle.council_game.proofs.Imports.{◌≡◌, ℕ, suc, ◌<◌, Bool, true, false, not, ◌||◌, List, [], ◌∷◌, length, get_or, filter, refl, sym}
use Rattle.council_game.proofs.Imports.{◌∙◌, arith, inl, inr, list_all, range_with_len, not-false, or_parts, length-range_with_len}
use Rattle.council_game.proofs.Imports.{nat_tests}
use Rattle.std.proofs.lemmas.{Bool.and_cases, List.Sums.AllPass-from_list_all, List.Sums.list_all-from_AllPass}
use Rattle.council_game.proofs.Shared.Rankings.{places-at}

-- a place is out, or it passes
abbrev OutOrPasses : (ℕ → Bool) → (ℕ → Bool) → ℕ → Bool
OutOrPasses in_it passes p = not (in_it p) || passes p

list_all-filter : (in_it passes : ℕ → Bool) (ps : List ℕ) → list_all passes (filter in_it ps) ≡ list_all (OutOrPasses in_it passes) ps
list_all-filter in_it passes [] = refl
list_all-filter in_it passes (p ∷ ps) = grind (arith, nat_tests, list_all-filter in_it passes ps)

-- if each of those places passes, so does one of them
pub each-place : (in_it passes : ℕ → Bool) (n p : ℕ) → list_all passes (filter in_it (range_with_len 0 n)) ≡ true → p < n → in_it p ≡ true
    → passes p ≡ true
each-place in_it passes n p all below inside =
    let each = AllPass-from_list_all (OutOrPasses in_it passes) (range_with_len 0 n)
    (sym (list_all-filter in_it passes (range_with_len 0 n)) ∙ all) in
    let here = rw (places-at n p 0 below) at (each p 0 (let long = length-range_with_len 0 n in omega (arith, long, below))) in
    grind (arith, nat_tests)

-- the same the other way round
pub all-places : (in_it passes : ℕ → Bool) (n : ℕ) → ((p : ℕ) → p < n → in_it p ≡ true → passes p ≡ true)
    → list_all passes (filter in_it (range_with_len 0 n)) ≡ true
all-places in_it passes n each = grind (arith, nat_tests, list_all-filter, list_all-from_AllPass, length-range_with_len, places-at)

some-fails : (test : ℕ → Bool) (ps : List ℕ) → list_all test ps ≡ false → (k : ℕ) × (k < length ps) × (test (get_or ps k 0) ≡ false)
some-fails test [] h = absurd (cc)
some-fails test (p ∷ ps) h = elim (and_cases (test p) (list_all test ps) h) [
  | inl here ↦ (0, omega arith, here)
  | inr later ↦ let found = some-fails test ps later in (suc found.0, omega (arith, found.1), found.2)
]

-- if not all of them pass, one does not
pub spare-place : (in_it passes : ℕ → Bool) (n : ℕ) → list_all passes (filter in_it (range_with_len 0 n)) ≡ false → (p : ℕ) × (p < n)
    × (in_it p ≡ true) × (passes p ≡ false)
spare-place in_it passes n some =
    grind (arith, nat_tests, some-fails, list_all-filter, length-range_with_len, or_parts, places-at, not-false)
