-- Lists: sums over them, in either order; one test after another, and one that all pass; one place
-- changed; zeros.
use Rattle.std.proofs.Common.{◌≡◌, ℕ, zero, suc, ◌+◌, ◌*◌, ◌<◌, Bool, true, ◌&&◌, ◌==◌, cond, List, [], ◌∷◌, length, get_or, set, replicate}
use Rattle.std.proofs.Common.{filter, sum_by, sym, ap, refl, ◌∙◌, arith, get_or-set_same, get_or-set_other}
use Rattle.std.proofs.lemmas.{Bool.Decides.nat_tests, List.Sums.sum_by-cons}

pub sum-zero : {A : Type 0} (xs : List A) → sum_by (λ x. 0) xs ≡ 0
sum-zero [] = refl
sum-zero (x ∷ xs) = simp sum_by-cons (omega (arith, sum-zero xs))

pub sum-plus : {A : Type 0} (f g : A → ℕ) (xs : List A) → sum_by (λ x. f x + g x) xs ≡ sum_by f xs + sum_by g xs
sum-plus f g [] = refl
sum-plus f g (x ∷ xs) = simp sum_by-cons (omega (arith, sum-plus f g xs))

pub sum-swap : {A B : Type 0} (f : A → B → ℕ) (xs : List A) (ys : List B)
    → sum_by (λ x. sum_by (f x) ys) xs ≡ sum_by (λ y. sum_by (λ x. f x y) xs) ys
sum-swap f [] ys = sym (sum-zero ys)
sum-swap f (x ∷ xs) ys =
    sum_by-cons (λ z. sum_by (f z) ys) x xs ∙ ap (λ (n : ℕ). sum_by (f x) ys + n) (sum-swap f xs ys)
    ∙ sym (sum-plus (f x) (λ y. sum_by (λ z. f z y) xs) ys) ∙ sym (λ i. sum_by (λ y. sum_by-cons (λ z. f z y) x xs i) ys)

pub filter-both : {A : Type 0} (p q : A → Bool) (xs : List A) → filter q (filter p xs) ≡ filter (λ x. p x && q x) xs
filter-both p q [] = refl
filter-both p q (x ∷ xs) = grind (arith, nat_tests, filter-both p q xs)

pub filter-all : {A : Type 0} (xs : List A) → length (filter (λ x. true) xs) ≡ length xs
filter-all [] = refl
filter-all (x ∷ xs) = ap (λ (n : ℕ). suc n) (filter-all xs)

-- v more at place k
pub bumped : (xs : List ℕ) (k s v : ℕ) → k < length xs → get_or (set xs k (get_or xs k 0 + v)) s 0 ≡ get_or xs s 0 + v * cond (k == s) 1 0
bumped xs k s v lt = grind (arith, nat_tests, get_or-set_same, get_or-set_other)

pub get_or-zeros : (n k : ℕ) → get_or {A = ℕ} (replicate {A = ℕ} n 0) k 0 ≡ 0
get_or-zeros zero k = refl
get_or-zeros (suc n) zero = refl
get_or-zeros (suc n) (suc k) = get_or-zeros n k
