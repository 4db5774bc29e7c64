-- The weight of a coalition, one binary digit after another.
use Rattle.council_game.proofs.Imports.{nat_tests, ◌≡◌, ℕ, suc, ◌+◌, ◌*◌, ◌/◌, ◌%◌, ◌^◌, ◌<◌, List, [], ◌∷◌, length, filter, slice_index}
use Rattle.council_game.proofs.Imports.{refl, sym, ap, ◌∙◌, arith, range_with_len, sum_by, sum_by-cons, has, weight}
use Rattle.std.proofs.{Common.eqb-true, lemmas.Bool.cond_both, lemmas.Bool.eqb-false}

-- the last of the places is the lowest digit
by_digits : List ℕ → ℕ → ℕ
by_digits [] c = 0
by_digits (w ∷ ws) c = c / 2 ^ length ws % 2 * w + by_digits ws c

-- of the last places, from a on, those in c weigh together what c's lowest digits do
from : (ws vs : List ℕ) (m a c : ℕ) → m ≡ a + length vs → ((i : ℕ) → i < length vs → slice_index ws (a + i) ≡ slice_index vs i) →
    by_digits vs c ≡ sum_by (slice_index ws) (filter (λ p. has m p c) (range_with_len a (length vs)))
unfolding has by_digits
from ws [] m a c e same = refl
from ws (v ∷ vs) m a c e same =
    let rest = from ws vs m (a + 1) c (omega arith) (λ i below.
    let at : a + 1 + i ≡ a + suc i = omega arith in
    ap (slice_index ws) at ∙ same (suc i) (omega arith)) in
    let others : List ℕ = filter (λ p. has m p c) (range_with_len (a + 1) (length vs)) in
    let first : slice_index ws a ≡ v = ap (slice_index ws) (let z : a ≡ a + 0 = omega arith in z) ∙ same 0 (omega arith) in
    let more = sum_by-cons (slice_index ws) a others in grind (arith, cond_both, by_digits, eqb-true, eqb-false)

weight-by_digits : (ws : List ℕ) (c : ℕ) → weight ws c ≡ by_digits ws c
unfolding weight
weight-by_digits ws c = grind (arith, nat_tests, from)

pub weight-nil : (c : ℕ) → weight [] c ≡ 0
unfolding by_digits
weight-nil c = weight-by_digits [] c

pub weight-cons : (w : ℕ) (ws : List ℕ) (c : ℕ) → weight (w ∷ ws) c ≡ c / 2 ^ length ws % 2 * w + weight ws c
unfolding by_digits
weight-cons w ws c = weight-by_digits (w ∷ ws) c ∙ ap (λ (rest : ℕ). c / 2 ^ length ws % 2 * w + rest) (sym (weight-by_digits ws c))
