-- Coalitions, which are numbers, as sets: how many of them pass a test, and what they weigh.
use Rattle.mwc_states.proofs.Imports.{common_steps, get_or, map, filter, sum_by, refl, sym, ap, arith, nat_tests, sum_by-cons, size, down}
use Rattle.mwc_states.proofs.Imports.{weight, weigh, ◌≡◌, ◌∙◌, ℕ, zero, suc, ◌+◌, ◌^◌, ◌<◌, Bool, true, false, ◌&&◌, ◌==◌, cond, List, []}
use Rattle.mwc_states.proofs.Imports.{◌∷◌, length, count_sets, has}
use Rattle.std.specs.List.{range_with_len}
use Rattle.std.proofs.lemmas.List.Sums.{length-filter}
use Rattle.council_game.proofs.Shared.Sets.{double-pow, first-in, first-out, rest-in, rest-out, sum-down, sum-none}

-- the set of a coalition of n members, member by member
abbrev pub set_of : ℕ → ℕ → List Bool
set_of n c = map (λ p. has n p c) (range_with_len 0 n)

-- ---- the first member, and the others
map-later : {X : Type 0} (f g : ℕ → X) (a n : ℕ) → ((p : ℕ) → p < a + n → f (suc p) ≡ g p) → map f (range_with_len (a + 1) n) ≡ map g (range_with_len a n)
map-later f g a zero same = refl
map-later f g a (suc n) same =
    let e : a + 1 ≡ suc a = omega arith in
    let here : f (a + 1) ≡ g a = ap f e ∙ same a (omega arith) in
    λ i. here i ∷ map-later f g (a + 1) n (λ p lt. same p (omega arith)) i

pub set-out : (n c : ℕ) → c < 2 ^ n → set_of (suc n) c ≡ false ∷ set_of n c
set-out n c lt = λ i. first-out n c lt i ∷ map-later (λ p. has (suc n) p c) (λ p. has n p c) 0 n (λ p _. rest-out n p c) i

pub set-in : (n c : ℕ) → c < 2 ^ n → set_of (suc n) (2 ^ n + c) ≡ true ∷ set_of n c
set-in n c lt = grind (arith, first-in, map-later, rest-in)

filter-map : (f : ℕ → Bool) (ps : List ℕ) → length (filter (λ b. b) (map f ps)) ≡ length (filter f ps)
filter-map f [] = refl
filter-map f (p ∷ ps) = grind (arith, nat_tests, filter-map f ps)

-- how many members a set has
abbrev number : List Bool → ℕ
number set = length (filter (λ b. b) set)

size-number : (n c : ℕ) → size n c ≡ number (set_of n c)
size-number n c = sym (filter-map (λ p. has n p c) (range_with_len 0 n))

-- ---- how many sets pass a test
sum-two : (f : ℕ → ℕ) (m n : ℕ) → sum_by f (down (m + n)) ≡ sum_by (λ c. f (n + c)) (down m) + sum_by f (down n)
unfolding down
sum-two f zero n = let e : zero + n ≡ n = omega arith in omega (arith, ap (λ (k : ℕ). sum_by f (down k)) e)
sum-two f (suc m) n =
    let e : suc m + n ≡ suc (n + m) = omega arith in
    let back : n + m ≡ m + n = omega arith in grind (arith, nat_tests, common_steps, sum-two f m n, sum_by, down, sum_by-cons)

abbrev passing : ℕ → (List Bool → Bool) → ℕ → ℕ
passing n test s = sum_by (λ c. cond (test (set_of n c) && (number (set_of n c) == s)) 1 0) (down (2 ^ n))

by-first : (n : ℕ) (test : List Bool → Bool) (s : ℕ) → passing (suc n) test s
    ≡ sum_by (λ c. cond (test (true ∷ set_of n c) && (suc (number (set_of n c)) == s)) 1 0) (down (2 ^ n)) + passing n (λ set. test (false ∷ set)) s
by-first n test s =
    let one : List Bool → ℕ = λ set. cond (test set && (number set == s)) 1 0 in
    let h : ℕ = 2 ^ n in
    ap (λ (k : ℕ). sum_by (λ c. one (set_of (suc n) c)) (down k)) (double-pow n)
    ∙ sum-two (λ c. one (set_of (suc n) c)) h h
    ∙ (λ i. sum-down (λ c. one (set_of (suc n) (h + c))) (λ c. one (true ∷ set_of n c)) h (λ c lt. ap one (set-in n c lt)) i
    + sum-down (λ c. one (set_of (suc n) c)) (λ c. one (false ∷ set_of n c)) h (λ c lt. ap one (set-out n c lt)) i)

count-passing : (n : ℕ) (test : List Bool → Bool) (s : ℕ) → count_sets n test s ≡ passing n test s
unfolding count_sets down
count-passing zero test zero = grind (arith, nat_tests)
count-passing zero test (suc s) = grind (arith, nat_tests)
count-passing (suc n) test zero =
    let none = sum-down (λ c. cond (test (true ∷ set_of n c) && (suc (number (set_of n c)) == 0)) 1 0) (λ c. 0) (2 ^ n) (λ c _. grind (arith, nat_tests)) in
    grind (arith, by-first n test 0, none, sum-none (λ c. 0) (2 ^ n) (λ c _. refl), count-passing n (λ set. test (false ∷ set)) 0)
count-passing (suc n) test (suc s) =
    let within = sum-down (λ c. cond (test (true ∷ set_of n c) && (suc (number (set_of n c)) == suc s)) 1 0)
    (λ c. cond (test (true ∷ set_of n c) && (number (set_of n c) == s)) 1 0) (2 ^ n) (λ c _. grind (arith, nat_tests)) in
    omega (arith, by-first n test (suc s), within, count-passing n (λ set. test (true ∷ set)) s, count-passing n (λ set. test (false ∷ set)) (suc s))

pub count-coalitions : (n : ℕ) (test : List Bool → Bool) (s : ℕ)
    → count_sets n test s ≡ length (filter (λ c. test (set_of n c) && (size n c == s)) (down (2 ^ n)))
count-coalitions n test s = grind (arith, count-passing, size-number, length-filter)

-- ---- what a coalition weighs under a rule
weigh-from : (members : List (List ℕ)) (ws : List ℕ) (r n a c : ℕ)
    → ((p : ℕ) → p < length members → get_or (get_or members p []) r 0 ≡ get_or ws (a + p) 0)
    → weigh members (map (λ p. has n p c) (range_with_len a (length members))) r
    ≡ sum_by (λ p. get_or ws p 0) (filter (λ p. has n p c) (range_with_len a (length members)))
unfolding weigh
weigh-from [] ws r n a c same = refl
weigh-from (m ∷ ms) ws r n a c same =
    let rest = weigh-from ms ws r n (a + 1) c (λ p lt.
    (let at : a + suc p ≡ a + 1 + p = omega arith in same (suc p) (omega arith) ∙ ap (λ (k : ℕ). get_or ws k 0) at)) in
    let first : get_or m r 0 ≡ get_or ws a 0 = same 0 (omega arith) ∙ ap (λ (k : ℕ). get_or ws k 0) (let z : a + 0 ≡ a = omega arith in z) in
    let more = sum_by-cons (λ p. get_or ws p 0) a (filter (λ p. has n p c) (range_with_len (a + 1) (length ms))) in
    grind (arith, nat_tests)

pub weigh-set : (members : List (List ℕ)) (ws : List ℕ) (r n c : ℕ) → length members ≡ n → length ws ≡ n
    → ((p : ℕ) → p < n → get_or (get_or members p []) r 0 ≡ get_or ws p 0) → weigh members (set_of n c) r ≡ weight ws c
unfolding weight
weigh-set members ws r n c long full same = grind (arith, weigh-from)
