-- What the table of a member's sizes weighs: the unit fractions of its coalitions, over the common
-- denominator.
use Rattle.power_index.proofs.Imports.{◌≡◌, ◌∙◌, ℕ, ◌+◌, ◌*◌, ◌/◌, ◌<◌, ◌≤◌, List, length, sym, ap, arith, filter, sum_by, range_with_len}
use Rattle.power_index.proofs.Imports.{AllByRecursion, fold-map, GameView, members, contains, count_of_member, size_of, Tables, AreCounts}
use Rattle.power_index.proofs.Imports.{denominator, weighted_sum, table_total, table_of_member, table_of_member_size, table_memberships}
use Rattle.power_index.proofs.Imports.{sizes_of_member}
use Rattle.std.proofs.lemmas.List.{length-map}
use Rattle.power_index.specs.Counting.{count_of_member_size}
use Rattle.power_index.proofs.{Shared.Sums.sum-range, Shared.Sums.sum-by_size, Shared.Sums.length-filter-le, Units.sum_few}
use Rattle.power_index.proofs.Shared.Members.{sizes-within, size-pos-in, size-le}

pub within : (g : GameView) (list : List ℕ) (t : Tables) (i : ℕ) → i < t.members → AreCounts g list t
    → AllByRecursion (λ s. (0 < s) × (s ≤ length g.names)) (sizes_of_member g list i)
within g list t i lt h = sizes-within g list i (omega (arith, h.members))

pub weight-of : (g : GameView) (list : List ℕ) (i : ℕ) → 0 < length g.names
    → weighted_sum denominator (λ s. count_of_member_size g i s list) (length g.names)
    ≡ sum_by (λ s. denominator / s) (sizes_of_member g list i)
weight-of g list i some =
    sum-by_size (λ s. denominator / s) (size_of g) (contains g i) 1 (length g.names) list
    (λ c in'. (size-pos-in g i c some in', omega (arith, size-le (length g.names) c)))
    ∙ sym (fold-map (λ (a : ℕ) (s : ℕ). a + denominator / s) (size_of g) 0 (filter (contains g i) list))

pub weight : (g : GameView) (list : List ℕ) (t : Tables) (i : ℕ) → i < t.members → AreCounts g list t
    → weighted_sum denominator (table_of_member_size t i) t.members ≡ sum_by (λ s. denominator / s) (sizes_of_member g list i)
weight g list t i lt h =
    ap (weighted_sum denominator (table_of_member_size t i)) h.members
    ∙ sum-range (λ s. table_of_member_size t i s * (denominator / s)) (λ s. count_of_member_size g i s list * (denominator / s)) 1 (length g.names)
    (λ s _ le. ap (λ k. k * (denominator / s)) (h.of_member_size i s lt (omega (arith, h.members))))
    ∙ weight-of g list i (omega (arith, lt, h.members))

-- a member's unit fractions are at most as many as all coalitions
pub weight-light : (g : GameView) (list : List ℕ) (t : Tables) (i : ℕ) → i < t.members → AreCounts g list t
    → weighted_sum denominator (table_of_member_size t i) t.members ≤ denominator * table_total t
weight-light g list t i lt h =
    let few = sum_few denominator (sizes_of_member g list i) in
    let long = length-map (filter (contains g i) list) (size_of g) in
    omega (arith, weight g list t i lt h, few, long, length-filter-le (contains g i) list, h.total)

-- the numbers of all members, as the table has them
pub memberships-are : (g : GameView) (list : List ℕ) (t : Tables) → AreCounts g list t
    → table_memberships t ≡ sum_by (λ j. count_of_member g j list) (members g)
memberships-are g list t h =
    sum-range (table_of_member t) (λ i. count_of_member g i list) 0 t.members (λ j _ lt. h.of_member j (omega arith))
    ∙ ap (λ n. sum_by (λ i. count_of_member g i list) (range_with_len 0 n)) h.members
