-- The list of minimal coalitions, by other places of the members.
use Rattle.council_game.proofs.Imports.{◌≡◌, ◌∙◌, ◌==◌, ℕ, suc, ◌+◌, ◌^◌, ◌<◌, ◌≤◌, Bool, cond, List, [], ◌∷◌, length, get_or, map, sym, ap, refl}
use Rattle.council_game.proofs.Imports.{arith, inl, inr, cases_lt, cases_eq, nat_tests, count_by, sum_by-cons, IsPermutation}
use Rattle.council_game.proofs.Imports.{sum_by-IsPermutation, get_or_default}
use Rattle.council_game.proofs.Imports.{GameView, IsGame, votes_of, minimal_coalitions}
use Rattle.std.proofs.lemmas.List.Sums.{length-filter}
use Rattle.council_game.specs.Members.{HaveSameMembers}
use Rattle.council_game.proofs.Shared.{Games.votes-are, Listing.listing-is, Rankings.count_by-none}
use Rattle.council_game.proofs.Shared.Sets.{set-one}
use Rattle.council_game.proofs.Shared.Renamed.{same, same-by-members, same-renaming, there, there-below, there-same}

-- numbers do not rise
abbrev pub FallsAlong : List ℕ → Type 0
FallsAlong xs = (i j : ℕ) → i ≤ j → j < length xs → get_or xs j 0 ≤ get_or xs i 0

-- a number above the first is not there
none-above : (x : ℕ) (xs : List ℕ) (y : ℕ) → FallsAlong (x ∷ xs) → x < y → count_by (λ z. z == y) (x ∷ xs) ≡ 0
none-above x xs y falls above =
    count_by-none (λ z. z == y) (x ∷ xs) (λ k d lt.
    let here = falls 0 k (omega arith) lt in
    let same = get_or_default (x ∷ xs) k d 0 lt in
    grind (arith, nat_tests, here, same))

count-first : (x : ℕ) (xs : List ℕ) → count_by (λ z. z == x) (x ∷ xs) ≡ 1 + count_by (λ z. z == x) xs
count-first x xs = grind (arith, nat_tests, sum_by-cons (λ z. cond (z == x) 1 0) x xs)

-- two such lists with as many of each number are the same
pub same-falling : (xs ys : List ℕ) → FallsAlong xs → FallsAlong ys
    → ((x : ℕ) → count_by (λ z. z == x) xs ≡ count_by (λ z. z == x) ys) → xs ≡ ys
same-falling [] [] fx fy same = refl
same-falling [] (y ∷ ys) fx fy same = absurd (omega (arith, same y, count-first y ys))
same-falling (x ∷ xs) [] fx fy same = absurd (omega (arith, same x, count-first x xs))
same-falling (x ∷ xs) (y ∷ ys) fx fy same =
    let first : x ≡ y = elim (cases_lt x y) [
      | inl less ↦ absurd (omega (arith, same y, count-first y ys, none-above x xs y fx less))
      | inr not_less ↦ elim (cases_lt y x) [
        | inl more ↦ absurd (omega (arith, same x, count-first x xs, none-above y ys x fy more))
        | inr not_more ↦ omega (arith, not_less, not_more)
      ]
    ] in
    let rest = same-falling xs ys (λ i j le lt. fx (suc i) (suc j) (omega (arith, le)) (omega (arith, lt)))
    (λ i j le lt. fy (suc i) (suc j) (omega (arith, le)) (omega (arith, lt)))
    (λ z. let all = same z in
    omega (
      arith,
      all,
      first,
      sum_by-cons (λ w. cond (w == z) 1 0) x xs,
      sum_by-cons (λ w. cond (w == z) 1 0) y ys,
      ap {B = ℕ} (λ (w : ℕ). cond (w == z) 1 0) first,
    )) in
    grind (arith, first, rest)

count-map : (f : ℕ → ℕ) (p : ℕ → Bool) (xs : List ℕ) → count_by p (map f xs) ≡ count_by (λ x. p (f x)) xs
count-map f p [] = refl
count-map f p (x ∷ xs) =
    omega (arith, count-map f p xs, sum_by-cons (λ z. cond (p z) 1 0) (f x) (map f xs), sum_by-cons (λ z. cond (p (f z)) 1 0) x xs)

module _ (h g : GameView) (is_h : IsGame h) (is_g : IsGame g) (names : g.names ≡ h.names) (rules : g.rules ≡ h.rules) (ways : g.ways ≡ h.ways) where
  -- the coalition of g with the members of one of h
  abbrev pub moved : ℕ → ℕ
  moved = there same same h g is_h is_g (same-renaming h g is_h is_g names rules ways)

  -- a coalition with the members of another one is that one's
  pub moved-is : (c d : ℕ) → d < 2 ^ length h.names → HaveSameMembers h g c d → moved c ≡ d
  moved-is c d below alike =
      let r = same-renaming h g is_h is_g names rules ways in
      let room = ap (λ (n : ℕ). 2 ^ n) r.count in
      set-one g is_g (moved c) d (omega (arith, room, there-below same same h g is_h is_g r c)) (omega (arith, room, below))
      (λ i lt. sym (there-same same same h g is_h is_g r c i (omega (arith, r.count, lt))) ∙ alike i (omega (arith, r.count, lt)))

  pub resorted : (list : List ℕ) → IsPermutation (map moved (minimal_coalitions (votes_of h))) list → FallsAlong list
      → list ≡ minimal_coalitions (votes_of g)
  resorted list sorted falls =
      let alike = same-by-members h g is_h is_g names rules ways in
      let listing = listing-is (votes_of g) (votes-are g is_g) in
      same-falling list (minimal_coalitions (votes_of g)) falls
      (λ i j le lt. elim (cases_eq i j) [
        | inl e ↦ omega (arith, ap (λ (k : ℕ). get_or (minimal_coalitions (votes_of g)) k 0) e)
        | inr other ↦ (let below = listing.descending i j 0 (omega (arith, le, other)) lt in omega (arith, below))
      ])
      (λ x.
      let kept : count_by (λ z. z == x) list ≡ count_by (λ z. z == x) (map moved (minimal_coalitions (votes_of h))) =
      sum_by-IsPermutation (λ z. cond (z == x) 1 0) (map moved (minimal_coalitions (votes_of h))) list sorted in
      kept ∙ count-map moved (λ z. z == x) (minimal_coalitions (votes_of h))
      ∙ sym (length-filter (λ c. moved c == x) (minimal_coalitions (votes_of h)))
      ∙ alike.counts (λ c. moved c == x) (λ d. d == x) (λ c d lc ld m. ap (λ (z : ℕ). z == x) (moved-is c d ld m))
      ∙ length-filter (λ d. d == x) (minimal_coalitions (votes_of g)))
