-- Lowest terms keep the order of fractions, and tell them apart.
use Rattle.std.proofs.Common.{◌≡◌, ◌∙◌, ℕ, ◌*◌, ◌<◌, ◌≤◌, List, length, ap, sym, subst, arith, nat_cmp, mul-pos, mul-le-mul_right, lt_of_mul-lt-mul_right}
use Rattle.std.proofs.{lemmas.Bool.cases_lt, lemmas.Bool.cases_eq, lemmas.Bool.Decides.nat_tests}
use Rattle.std.proofs.lemmas.Grind.{common_steps}
use Rattle.council_game.specs.Game.{GameView, IsGame, AreNonemptyCoalitions}
use Rattle.power_index.specs.{Counting.count_of_member, Indices.public_good}
use Rattle.power_index.specs.Fractions.{SameFraction, fraction_cmp, lowest_terms}
use Rattle.power_index.specs.{SwingIndices.banzhaf, Swings.all_swings, Swings.swings}
use Rattle.power_index.proofs.Shared.AddUp.{public_good_bottom}
use Rattle.power_index.proofs.Shared.LowestTerms.{lowest_terms-lowest, carried, lowest_from_same}

less-times : (k x y : ℕ) → 0 < k → x < y → x * k < y * k
less-times k x y pos lt = grind (arith, common_steps, mul-le-mul_right)

-- a common factor above 0 does not count
scaled : (k x y : ℕ) → 0 < k → nat_cmp (x * k) (y * k) ≡ nat_cmp x y
scaled k x y pos = grind (arith, common_steps, cases_eq, cases_lt, less-times, nat_tests)

-- fractions that are the same numbers have the same order
same-order : (a b c d A B C D : ℕ) → 0 < b → 0 < d → 0 < B → 0 < D → a * B ≡ A * b → c * D ≡ C * d
    → nat_cmp (a * d) (c * b) ≡ nat_cmp (A * D) (C * B)
same-order a b c d A B C D pb pd pB pD e f =
    let left : a * d * (B * D) ≡ A * D * (b * d) = omega (arith, ap (λ (n : ℕ). n * (d * D)) e) in
    let right : c * b * (B * D) ≡ C * B * (b * d) = omega (arith, ap (λ (n : ℕ). n * (b * B)) f) in
    sym (scaled (B * D) (a * d) (c * b) (mul-pos pB pD))
    ∙ ap (λ (n : ℕ). nat_cmp n (c * b * (B * D))) left
    ∙ ap (λ (n : ℕ). nat_cmp (A * D * (b * d)) n) right
    ∙ scaled (b * d) (A * D) (C * B) (mul-pos pb pd)

pub lowest_terms_ordered : (p q : ℕ × ℕ) → 0 < p.1 → 0 < q.1 → fraction_cmp (lowest_terms p) (lowest_terms q) ≡ fraction_cmp p q
lowest_terms_ordered p q pp pq = grind (arith, common_steps, lowest_terms-lowest, same-order)

pub same_from_lowest : (p q : ℕ × ℕ) → 0 < p.1 → 0 < q.1 → lowest_terms p ≡ lowest_terms q → SameFraction p q
same_from_lowest p q pp pq e =
    let lp = lowest_terms-lowest p pp in
    let lq = lowest_terms-lowest q pq in
    carried (lowest_terms p).0 (lowest_terms p).1 q.0 q.1 p.0 p.1 lp.positive (sym lp.same)
    (subst (λ (l : ℕ × ℕ). l.0 * q.1 ≡ q.0 * l.1) (sym e) lq.same)

pub ruleset apart = (same_from_lowest, lowest_from_same)

pub at_most_then_below : (p q r : ℕ × ℕ) → 0 < p.1 → p.0 * q.1 ≤ q.0 * p.1 → q.0 * r.1 < r.0 * q.1 → p.0 * r.1 < r.0 * p.1
at_most_then_below p q r pos le lt = step p.0 p.1 q.0 q.1 r.0 r.1 pos le lt
  where
    step : (a b c d e f : ℕ) → 0 < b → a * d ≤ c * b → c * f < e * d → a * f < e * b
    step a b c d e f pos le lt =
        let first : a * d * f ≤ c * b * f = mul-le-mul_right f le in
        let second : c * f * b < e * d * b = less-times b (c * f) (e * d) pos lt in
        let both : a * f * d < e * b * d = omega (arith, first, second) in grind (arith, lt_of_mul-lt-mul_right)

-- ---- fractions of the same bottom
pub by_counts : (g : GameView) (list : List ℕ) (i j : ℕ) → IsGame g → 0 < length list → AreNonemptyCoalitions g list
    → fraction_cmp (public_good g list i) (public_good g list j) ≡ nat_cmp (count_of_member g i list) (count_of_member g j list)
unfolding public_good
by_counts g list i j game some h =
    scaled (public_good g list i).1 (count_of_member g i list) (count_of_member g j list) (public_good_bottom g list i game some h)

pub by_swings : (g : GameView) (i j : ℕ) → 0 < all_swings g → fraction_cmp (banzhaf g i) (banzhaf g j) ≡ nat_cmp (swings g i) (swings g j)
unfolding banzhaf
by_swings g i j some = scaled (all_swings g) (swings g i) (swings g j) some
