-- Numbers in a row, one number more.
use Rattle.std.proofs.lemmas.Bool.Decides.{nat_tests}
use Rattle.std.proofs.Common.{◌≡◌, ℕ, zero, suc, ◌+◌, ◌<◌, ◌≤◌, List, [], ◌∷◌, ◌++◌, length, take, get_or, decimal, sym, ap, ◌∙◌, arith}
use Rattle.std.proofs.Common.{append_assoc, length-append, flat_map, append-nil}
use Rattle.std.proofs.lemmas.{Grind.flat_map-append, List.take_more, List.Folds.length-flat_map-take}
use Rattle.council_game.specs.Joined.{joined_numbers}

-- numbers after others, with the separator before each
abbrev behind : List ℕ → List ℕ → List ℕ
behind s vs = flat_map (λ v. s ++ decimal v) vs

pub one-number : (s : List ℕ) (v : ℕ) → joined_numbers s (v ∷ []) ≡ decimal v
one-number s v = append-nil (decimal v)

pub next-numbers : (s : List ℕ) (v w : ℕ) (vs : List ℕ) → joined_numbers s (v ∷ w ∷ vs) ≡ decimal v ++ (s ++ joined_numbers s (w ∷ vs))
next-numbers s v w vs = ap (λ (t : List ℕ). decimal v ++ t) (append_assoc s (decimal w) (behind s vs))

numbers-first : (s vs : List ℕ) → 0 < length vs → joined_numbers s (take 1 vs) ≡ decimal (get_or vs 0 0)
numbers-first s [] some = absurd (omega arith)
numbers-first s (v ∷ vs) some = one-number s v

numbers-more : (s vs : List ℕ) (r : ℕ)
    → r < length vs → 0 < r → joined_numbers s (take (r + 1) vs) ≡ joined_numbers s (take r vs) ++ (s ++ decimal (get_or vs r 0))
numbers-more s [] r below some = absurd (omega arith)
numbers-more s (v ∷ vs) zero below some = absurd (omega arith)
numbers-more s (v ∷ vs) (suc r) below some =
    let next : List ℕ = s ++ decimal (get_or vs r 0) in
    ap (joined_numbers s) (take_more (v ∷ vs) (suc r) 0 below)
    ∙ ap (λ (t : List ℕ). decimal v ++ t) (flat_map-append (λ w. s ++ decimal w) (take r vs) (get_or vs r 0 ∷ []))
    ∙ sym (append_assoc (decimal v) (behind s (take r vs)) (next ++ []))
    ∙ ap (λ (t : List ℕ). joined_numbers s (v ∷ take r vs) ++ t) (append-nil next)

-- a first number, and a further one, after what is there
pub put-first : (s a vs : List ℕ) (r : ℕ) → r ≡ 0 → 0 < length vs
    → (a ++ joined_numbers s (take r vs)) ++ decimal (get_or vs r 0) ≡ a ++ joined_numbers s (take (r + 1) vs)
put-first s a vs zero none some = append_assoc a [] (decimal (get_or vs 0 0)) ∙ ap (λ (t : List ℕ). a ++ t) (sym (numbers-first s vs some))
put-first s a vs (suc r) none some = absurd (omega arith)

pub put-more : (s a vs : List ℕ) (r : ℕ) → r < length vs → 0 < r
    → ((a ++ joined_numbers s (take r vs)) ++ s) ++ decimal (get_or vs r 0) ≡ a ++ joined_numbers s (take (r + 1) vs)
put-more s a vs r below some = grind (arith, append_assoc, numbers-more)

-- the first numbers and a further one are no longer than all of them, with the separator and
-- without
pub more-within : (s vs : List ℕ) (r : ℕ) → r < length vs → 0 < r
    → length (joined_numbers s (take r vs)) + length s + length (decimal (get_or vs r 0)) ≤ length (joined_numbers s vs)
more-within s [] r below some = absurd (omega arith)
more-within s (v ∷ vs) zero below some = absurd (omega arith)
more-within s (v ∷ vs) (suc r) below some =
    let rest = length-flat_map-take (λ w. s ++ decimal w) vs r 0 (omega arith) in
    let first = length-append (decimal v) (behind s (take r vs)) in
    let all = length-append (decimal v) (behind s vs) in grind (arith, nat_tests, length-append)

pub next-within : (s vs : List ℕ) (r : ℕ)
    → r < length vs → length (joined_numbers s (take r vs)) + length (decimal (get_or vs r 0)) ≤ length (joined_numbers s vs)
next-within s [] r below = absurd (omega arith)
next-within s (v ∷ vs) zero below = omega (arith, length-append (decimal v) (behind s vs))
next-within s (v ∷ vs) (suc r) below = omega (arith, more-within s (v ∷ vs) (suc r) below (omega arith))
