-- Each index adds up to 1 over the members.
use Rattle.power_index.proofs.Imports.{◌≡◌, ◌∙◌, ℕ, ◌+◌, ◌*◌, ◌/◌, ◌<◌, ◌≤◌, List, [], ◌∷◌, suc, length, map, cond, ap, refl, arith, filter}
use Rattle.power_index.proofs.Imports.{sum_by-cons, fold-map, mul-pos, eq_of_mul-eq-mul_right, GameView, IsGame, deegan_packel, public_good}
use Rattle.power_index.proofs.Imports.{AreNonemptyCoalitions, votes-are, members, contains, size_of, count_of_member, unit_sum, sum_by}
use Rattle.power_index.proofs.Imports.{sizes_of_member, denominator, sum-swap}
use Rattle.power_index.specs.Fractions.{pair_sum, AddUpToOne}
use Rattle.power_index.proofs.Shared.Sums.{sum-filter, sum-times}
use Rattle.power_index.proofs.Shared.Members.{few-members, members-of, memberships, sizes-some, sizes-within, size-pos, size-le}
use Rattle.power_index.proofs.Units.{over_common, each_divides, divides, bottom_pos}

-- pairs that are w i over one bottom k add up to the sum of w over k
over_one : (k : ℕ) (q : ℕ → ℕ × ℕ) (w : ℕ → ℕ) → ((i : ℕ) → (q i).0 * k ≡ w i * (q i).1) → (is : List ℕ)
    → (pair_sum (map q is)).0 * k ≡ sum_by w is * (pair_sum (map q is)).1
over_one k q w each [] = omega arith
over_one k q w each (i ∷ is) =
    let e = each i in
    let again = over_one k q w each is in
    rw (sum_by-cons w i is) (omega (arith, ap (λ v. v * (pair_sum (map q is)).1) e, ap (λ v. v * (q i).1) again))

pub all_pos : (q : ℕ → ℕ × ℕ) → ((i : ℕ) → 0 < (q i).1) → (is : List ℕ) → 0 < (pair_sum (map q is)).1
all_pos q each [] = omega arith
all_pos q each (i ∷ is) = mul-pos (each i) (all_pos q each is)

adds_up : (k : ℕ) (q : ℕ → ℕ × ℕ) (w : ℕ → ℕ) (is : List ℕ) → 0 < k → ((i : ℕ) → (q i).0 * k ≡ w i * (q i).1) → ((i : ℕ) → 0 < (q i).1)
    → sum_by w is ≡ k → AddUpToOne (map q is)
adds_up k q w is pos each bottoms whole = record {
  positive = all_pos q bottoms is;
  one = (let same : (pair_sum (map q is)).0 * k ≡ (pair_sum (map q is)).1 * k =
      over_one k q w each is ∙ ap (λ v. v * (pair_sum (map q is)).1) whole ∙ omega arith in
      omega (arith, eq_of_mul-eq-mul_right k pos (pair_sum (map q is)).0 (pair_sum (map q is)).1 same));
}

-- each coalition weighs its size times the unit fraction of its size
whole_weight : (g : GameView) (list : List ℕ) → length g.names ≤ 40 → AreNonemptyCoalitions g list
    → sum_by (λ c. size_of g c * (denominator / size_of g c)) list ≡ length list * denominator
whole_weight g [] few h = omega arith
whole_weight g (c ∷ cs) few h =
    let head = h 0 c (omega arith) in
    let one : 1 ≤ size_of g c = size-pos (length g.names) c few head.0 head.1 in
    let all = divides (size_of g c) one (omega (arith, size-le (length g.names) c, few)) in
    let rest = whole_weight g cs few (λ k d lt. h (suc k) d (omega (arith, lt))) in
    simp sum_by-cons (omega (arith, all, rest))

weights : (g : GameView) (list : List ℕ) → IsGame g → AreNonemptyCoalitions g list
    → sum_by (λ i. sum_by (λ s. denominator / s) (sizes_of_member g list i)) (members g) ≡ length list * denominator
weights g list game h =
    (λ k. sum_by (λ i. own i k) (members g)) ∙ sum-swap (λ i c. cond (contains g i c) 1 0 * unit c) (members g) list
    ∙ (λ k. sum_by (λ c. each c k) list) ∙ whole_weight g list (few-members g game) h
  where
    unit : ℕ → ℕ
    unit c = denominator / size_of g c

    own : (i : ℕ) → sum_by (λ s. denominator / s) (sizes_of_member g list i) ≡ sum_by (λ c. cond (contains g i c) 1 0 * unit c) list
    own i = fold-map (λ (a : ℕ) (s : ℕ). a + denominator / s) (size_of g) 0 (filter (contains g i) list)
        ∙ sum-filter unit (contains g i) list

    each : (c : ℕ) → sum_by (λ i. cond (contains g i c) 1 0 * unit c) (members g) ≡ size_of g c * unit c
    each c = sum-times (λ i. cond (contains g i c) 1 0) (unit c) (members g) ∙ ap (λ n. n * unit c) (members-of g game c)

-- the bottoms of the indices are above 0
module _ (g : GameView) (list : List ℕ) (i : ℕ) (game : IsGame g) (some : 0 < length list) (h : AreNonemptyCoalitions g list) where
  pub deegan_packel_bottom : 0 < (deegan_packel g list i).1
  unfolding deegan_packel
  deegan_packel_bottom = mul-pos (bottom_pos (length g.names) (sizes_of_member g list i) (sizes-within g list i (votes-are g game).some))
      some

  pub public_good_bottom : 0 < (public_good g list i).1
  unfolding public_good
  public_good_bottom = omega (arith, some, memberships g list game, sizes-some g list (few-members g game) h)

pub deegan_packel_adds_up : (g : GameView) (list : List ℕ) → IsGame g → 0 < length list → AreNonemptyCoalitions g list
    → AddUpToOne (map (deegan_packel g list) (members g))
unfolding deegan_packel
deegan_packel_adds_up g list game some h =
    adds_up (denominator * length list) (deegan_packel g list) (λ i. sum_by (λ s. denominator / s) (sizes_of_member g list i)) (members g)
    (omega arith)
    (λ i. scale (sum_by (λ s. denominator / s) (sizes_of_member g list i)) (unit_sum (sizes_of_member g list i)).1
    (unit_sum (sizes_of_member g list i)).0
    (over_common denominator
    (sizes_of_member g list i)
    (each_divides (length g.names) (sizes_of_member g list i) (few-members g game) (sizes-within g list i (votes-are g game).some))))
    (λ i. deegan_packel_bottom g list i game some h)
    (weights g list game h ∙ omega arith)
  where
    scale : (w b a : ℕ) → w * b ≡ a * denominator → a * (denominator * length list) ≡ w * (b * length list)
    scale w b a e = omega (arith, ap (λ v. v * length list) e)

pub public_good_adds_up : (g : GameView) (list : List ℕ) → IsGame g → 0 < length list → AreNonemptyCoalitions g list
    → AddUpToOne (map (public_good g list) (members g))
unfolding public_good
public_good_adds_up g list game some h =
    adds_up (sum_by (λ j. count_of_member g j list) (members g)) (public_good g list) (λ i. count_of_member g i list) (members g)
    (public_good_bottom g list 0 game some h) (λ i. refl) (λ i. public_good_bottom g list i game some h) refl
