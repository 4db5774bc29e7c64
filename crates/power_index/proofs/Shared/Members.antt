-- What a game's rank places give: the members of a coalition are as many as its places.
use Rattle.power_index.proofs.Imports.{◌≡◌, ◌∙◌, ◌==◌, ℕ, ◌-◌, ◌/◌, ◌%◌, ◌^◌, ◌<◌, ◌≤◌, List, [], ◌∷◌, suc, length, get_or, map, cond, true}
use Rattle.power_index.proofs.Imports.{sym, ap, arith, inl, inr, filter, sum_by, range_with_len, AllByRecursion, sum_by-cons, length-filter}
use Rattle.power_index.proofs.Imports.{length-range_with_len, get_or-range_with_len, cases_lt, has, size, GameView, IsGame, sizes_of_member}
use Rattle.power_index.proofs.Imports.{AreNonemptyCoalitions, ranks-are, members, contains, size_of, count_of_member}
use Rattle.power_index.proofs.Imports.{lowest-place, sum-swap}
use Rattle.std.proofs.{Common.w64, Common.count_by, lemmas.List.Sums.get_or-le-sum_by}
use Rattle.std.specs.Int.{trailing_zeros}
use Rattle.std.proofs.lemmas.List.Elements.{All-map, All-weaker, filter_passes, recursion_from_All}
use Rattle.council_game.proofs.Shared.RankPlaces.{by-member, game-rank_places}
use Rattle.power_index.proofs.Shared.Sums.{length-filter-le}
pub use Rattle.council_game.proofs.Shared.Games.{few-members}

-- the members that a coalition contains are as many as its places
pub members-of : (g : GameView) → IsGame g → (c : ℕ) → count_by (λ i. contains g i c) (members g) ≡ size_of g c
members-of g is c =
    sym (by-member (length g.names) g.ranks (ranks-are g is).count (game-rank_places g is) (λ p. cond (has (length g.names) p c) 1 0))
    ∙ sym (length-filter (λ p. has (length g.names) p c) (members g))

pub size-le : (n c : ℕ) → size n c ≤ n
size-le n c = omega (arith, length-filter-le (λ p. has n p c) (range_with_len 0 n), length-range_with_len 0 n)

-- a coalition that contains a place is not empty
pub size-pos-at : (n p c : ℕ) → p < n → has n p c ≡ true → 1 ≤ size n c
size-pos-at n p c lt h =
    let one : ℕ → ℕ = λ q. cond (has n q c) 1 0 in
    let long : p < length (range_with_len 0 n) = rw length-range_with_len lt in
    let at : get_or (range_with_len 0 n) p 0 ≡ p = get_or-range_with_len 0 n p 0 lt ∙ omega arith in
    let here : one p ≡ 1 = ap {B = ℕ} (λ b. cond b 1 0) h in
    omega (arith, length-filter (λ q. has n q c) (range_with_len 0 n), get_or-le-sum_by one (range_with_len 0 n) p 0 long, ap one at, here)

pub size-pos : (n c : ℕ) → n ≤ 40 → 0 < c → c < 2 ^ n → 1 ≤ size n c
size-pos n c few pos below =
    let found = lowest-place n c few pos below in
    size-pos-at n (n - 1 - trailing_zeros w64 c) c (omega (arith, found.0)) found.1

-- a list's members, counted by member or by coalition
pub memberships : (g : GameView) (list : List ℕ) → IsGame g → sum_by (λ i. count_of_member g i list) (members g) ≡ sum_by (size_of g) list
memberships g list is =
    (λ k. sum_by (λ i. length-filter (contains g i) list k) (members g))
    ∙ sum-swap (λ i c. cond (contains g i c) 1 0) (members g) list
    ∙ (λ k. sum_by (λ c. members-of g is c k) list)

pub sizes-some : (g : GameView) (list : List ℕ) → length g.names ≤ 40 → AreNonemptyCoalitions g list → length list ≤ sum_by (size_of g) list
sizes-some g [] few h = omega arith
sizes-some g (c ∷ cs) few h =
    let head = h 0 c (omega arith) in
    let rest = sizes-some g cs few (λ k d lt. h (suc k) d (omega (arith, lt))) in
    simp sum_by-cons (omega (arith, size-pos (length g.names) c few head.0 head.1, rest))

-- what contains a member is not empty
pub size-pos-in : (g : GameView) (i c : ℕ) → 0 < length g.names → contains g i c ≡ true → 1 ≤ size_of g c
unfolding has
size-pos-in g i c some h = elim (cases_lt (get_or g.ranks i 0) (length g.names)) [
  | inl lt ↦ size-pos-at (length g.names) (get_or g.ranks i 0) c lt h
  | inr le ↦
      let low : length g.names - 1 - get_or g.ranks i 0 ≡ length g.names - 1 - (length g.names - 1) = omega arith in
      size-pos-at (length g.names) (length g.names - 1) c (omega arith) (ap (λ k. c / 2 ^ k % 2 == 1) (sym low) ∙ h)
]

pub sizes-within : (g : GameView) (list : List ℕ) (i : ℕ) → 0 < length g.names
    → AllByRecursion (λ s. (0 < s) × (s ≤ length g.names)) (sizes_of_member g list i)
sizes-within g list i some =
    let IsWithin : ℕ → Type 0 = λ s. (0 < s) × (s ≤ length g.names) in
    let each : (c : ℕ) → contains g i c ≡ true → IsWithin (size_of g c) =
    λ c in'. (size-pos-in g i c some in', size-le (length g.names) c) in
    let own : List ℕ = filter (contains g i) list in
    recursion_from_All IsWithin (map (size_of g) own) (All-map IsWithin (size_of g) own
    (All-weaker (λ c. contains g i c ≡ true) (λ c. IsWithin (size_of g c)) each own (filter_passes (contains g i) list)))
