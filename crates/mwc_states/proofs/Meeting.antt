-- Weights that meet rows.
use Rattle.mwc_states.proofs.Imports.{nat_tests, ◌≡◌, ℕ, ◌-◌, ◌<◌, ◌≤◌, Bool, true, false, cond, List, [], ◌∷◌, get_or, max, sum_by, refl}
use Rattle.mwc_states.proofs.Imports.{arith, zero-add, get_or-range_with_len, sum_by-cons, RULES, MOST, weigh, meets, IsTotal}
use Rattle.std.proofs.{Common.leb-true, Common.le-leb, lemmas.Bool.Decides.same_from_decides, lemmas.List.Sums.list_all-from_AllPass}

-- weights are at least as great as a row under each rule
abbrev pub Reaches : (ℕ → ℕ) → List ℕ → Type 0
Reaches weights row = (r : ℕ) → r < RULES → get_or row r 0 ≤ weights r

pub reach : (w : ℕ → ℕ) (row : List ℕ) → meets w row ≡ true → Reaches w row
unfolding meets
reach w row is r lt = grind (arith, get_or-range_with_len, zero-add, leb-true)

pub reached : (w : ℕ → ℕ) (row : List ℕ) → Reaches w row → meets w row ≡ true
unfolding meets
reached w row h = grind (arith, list_all-from_AllPass, get_or-range_with_len, zero-add, le-leb)

pub meets-same : (v w : ℕ → ℕ) (x y : List ℕ) → (Reaches v x → Reaches w y) → (Reaches w y → Reaches v x) → meets v x ≡ meets w y
meets-same v w x y to from = grind (arith, same_from_decides, reach, reached)

-- who meets a row meets each row that it meets
pub meets-through : (w : ℕ → ℕ) (x y : List ℕ) → meets w x ≡ true → meets (λ r. get_or x r 0) y ≡ true → meets w y ≡ true
meets-through w x y meets_x over = reached w y (λ r lt. omega (arith, reach w x meets_x r lt, reach (λ r. get_or x r 0) y over r lt))

-- the greater of a row and one that is met
pub meets-most : (w : ℕ → ℕ) (x y z : List ℕ) → ((r : ℕ) → get_or z r 0 ≡ max (get_or x r 0) (get_or y r 0)) → meets w y ≡ true → meets w z ≡ meets w x
meets-most w x y z is meets_y = meets-same w w z x (λ h r lt. omega (arith, is r, h r lt)) (λ h r lt. omega (arith, is r, h r lt, reach w y meets_y r lt))

-- a row that is raised, and is met by the same weights
pub meets-raised_same : (w : ℕ → ℕ) (x y : List ℕ) → ((r : ℕ) → get_or x r 0 ≤ get_or y r 0) → (meets w x ≡ true → meets w y ≡ true) → meets w y ≡ meets w x
meets-raised_same w x y above met = grind (arith, meets-same, reach, reached)

-- one member less
pub meets-left : (x y member : List ℕ) (members : List (List ℕ)) (taken : Bool) (set : List Bool)
    → ((r : ℕ) → get_or y r 0 ≡ get_or x r 0 - cond taken (get_or member r 0) 0) → meets (weigh (member ∷ members) (taken ∷ set)) x ≡ meets (weigh members set) y
unfolding weigh
meets-left x y member members true set is = meets-same _ _ x y (λ h r lt. omega (arith, is r, h r lt)) (λ h r lt. omega (arith, is r, h r lt))
meets-left x y member members false set is = meets-same _ _ x y (λ h r lt. omega (arith, is r, h r lt)) (λ h r lt. omega (arith, is r, h r lt))

-- ---- what sets weigh
pub weigh-nil : (members : List (List ℕ)) (r : ℕ) → weigh members [] r ≡ 0
unfolding weigh
weigh-nil [] r = refl
weigh-nil (member ∷ members) r = refl

pub weigh-within : (members : List (List ℕ)) (set : List Bool) (r : ℕ) → weigh members set r ≤ sum_by (λ member. get_or member r 0) members
unfolding weigh
weigh-within [] set r = omega arith
weigh-within (member ∷ members) [] r = omega arith
weigh-within (member ∷ members) (true ∷ set) r = simp sum_by-cons (omega (arith, weigh-within members set r))
weigh-within (member ∷ members) (false ∷ set) r = simp sum_by-cons (omega (arith, weigh-within members set r))

-- ---- all members together
pub meets-total : (members : List (List ℕ)) (total row : List ℕ) (set : List Bool) → IsTotal members total → ((r : ℕ) → get_or row r 0 ≤ MOST)
    → meets (weigh members set) row ≡ true → meets (λ r. get_or total r 0) row ≡ true
meets-total members total row set is small met = grind (arith, nat_tests, reached, weigh-within, reach)

pub ruleset total = (nat_tests, meets-total)
