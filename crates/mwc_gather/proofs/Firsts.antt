-- The first slices, and what holds at the end.
use Rattle.mwc_gather.proofs.Imports.{ne_eqb, length-append, sum_by, or-false, false≢true, range_with_len, IsStrictlyIncreasing, All-head}
use Rattle.mwc_gather.proofs.Imports.{All-tail, All-weaker, slices_from, slices_held_by, AreAssigned, Slicing, coalition_count, times_in, WorkerView}
use Rattle.mwc_gather.proofs.Imports.{◌≡◌, ◌⊎◌, ℕ, zero, suc, ◌+◌, ◌<◌, ◌≤◌, Bool, false, ◌||◌, cond, List, [], ◌∷◌, ◌++◌, Option, None}
use Rattle.mwc_gather.proofs.Imports.{length, map, replicate, All, refl, ltb, set, get_or, ap, subst, arith, sym, ◌∙◌, inl, inr, eq-eqb}
use Rattle.mwc_gather.proofs.Imports.{HasNotFailed, given_slices, AssignsInTurn, TakesTurn, AssignsOneEach, IsFresh}
use Rattle.std.proofs.lemmas.List.{get_or_push, Elements.All-map, Sums.get_or-le-sum_by}
use Rattle.council_game.proofs.Shared.Ranges.{sum_by-range-le}
use Rattle.mwc_gather.proofs.PartSlices.{part_slices_sum, each_held_once, held_increases}
use Rattle.mwc_gather.proofs.Turns.{turn_nothing, turn_one, none_free, none_ill, still_held, went_on, slices_held_at}

no_part_slices : (handles : List WorkerView) (from : ℕ) → All IsFresh handles
    → given_slices handles ≡ map (slices_held_by []) (range_with_len from (length handles))
no_part_slices [] from a = refl
no_part_slices (s ∷ handles) from a =
    let h = All-head IsFresh s handles a in grind (arith, no_part_slices handles (from + 1) (All-tail IsFresh s handles a))

-- before the first slice
pub begin : (n : ℕ) (early : Bool) (handles : List WorkerView) → All IsFresh handles → AssignsOneEach n 0 early (replicate n None) early handles
begin n early handles a = record {
  in_turn = record {
    in_order = record {
      holders = [];
      free = n;
      marks_are = refl;
      all_slices = omega arith;
      by_workers = λ k d l. absurd (omega arith);
      given_are = no_part_slices handles 0 a;
      dismissed_late = grind (arith, false≢true);
      stops_are = sym (ap (λ (b : Bool). early || b) (none_ill handles (All-weaker IsFresh HasNotFailed (λ x h. h.well) handles a)) ∙ or-false early);
      none_early = λ z. refl;
    };
    begins = λ z w l m. absurd (omega arith);
  };
  at_most = omega arith;
}

near : (m n : ℕ) → m < n + 1 → (m < n) ⊎ (m ≡ n)
near m n l = grind arith

reached : (k n m : ℕ) → k < n → ((w : ℕ) → w < k → w < n → w < m) → k ≤ m
reached zero n m l h = omega arith
reached (suc k) n m l h = let q = h k (omega arith) (omega arith) in omega arith

-- the first turn of worker k
pub first_turn : {n : ℕ} {early stopped stops : Bool} {marks after : List (Option ℕ)} (handles : List WorkerView) (k : ℕ) (s t : WorkerView)
    → k < length handles → s ≡ get_or handles k s → IsFresh s
    → AssignsOneEach n k early marks stopped handles → TakesTurn false marks stopped s k after stops t
    → AssignsOneEach n (k + 1) early after stops (set handles k t)
unfolding turn_nothing turn_one
first_turn {n} {early} {stopped} {stops} handles k s t l e fresh f r =
    let d = f.in_turn in
    let old = d.in_order in elim r.gives [
      | inl g ↦
          let full : stops ≡ false → old.free ≡ 0
          = grind (arith, or-false, false≢true, none_free) in
          record {
            in_turn = record {
              in_order = turn_nothing handles k s t l e old r g;
              begins = grind (arith, near, went_on);
            };
            at_most = omega arith;
          }
      | inr g ↦
          let hs : List ℕ = old.holders in
          let longer : length (hs ++ k ∷ []) ≡ length hs + 1 = length-append hs (k ∷ []) in
          record {
            in_turn = record {
              in_order = turn_one handles k s t l e old r g;
              begins = λ z w v u.
                  let go = went_on s t k r z in
                  elim (near w k v) [
                    | inl b ↦ still_held hs k w (d.begins go w b u)
                    | inr b ↦
                        let m : k ≤ length hs = reached k n (length hs) (omega arith) (λ i v u. let o = d.begins go i v u in o.0) in
                        let q : length hs ≡ w = omega arith in
                        (omega arith, get_or_push hs k 0 w q ∙ sym b)
                  ];
            };
            at_most = omega arith;
          }
    ]

-- what holds of each worker at the end
pub assigned_once : {n : ℕ} {part_slices : List (List ℕ)} (j : ℕ) → AreAssigned n part_slices → sum_by (times_in j) part_slices ≡ cond (ltb j n) 1 0
assigned_once {n} {part_slices} j d = grind (arith, each_held_once)

pub assigned_total : {n : ℕ} {part_slices : List (List ℕ)} (g : Slicing) → AreAssigned n part_slices
    → sum_by (coalition_count g) part_slices ≡ coalition_count g (range_with_len 0 n)
assigned_total {n} {part_slices} g d = grind (arith, part_slices_sum)

pub assigned_increase : {n : ℕ} {part_slices : List (List ℕ)} → AreAssigned n part_slices → All IsStrictlyIncreasing part_slices
assigned_increase {n} {part_slices} d =
    subst (λ (l : List (List ℕ)). All IsStrictlyIncreasing l) (sym d.slices_are)
    (All-map IsStrictlyIncreasing (slices_held_by d.holders) (range_with_len 0 (length part_slices))
    (λ k w l. held_increases (get_or (range_with_len 0 (length part_slices)) k w) d.holders))

-- no worker was given more than all slices
pub each_within : {n k : ℕ} {early stopped : Bool} {marks : List (Option ℕ)} (g : Slicing) (handles : List WorkerView)
    → AssignsInTurn n k early marks stopped handles
    → All (λ (s : List ℕ). coalition_count g s ≤ coalition_count g (range_with_len 0 n)) (given_slices handles)
each_within {n} g handles scheduler =
    let d = scheduler.in_order in
    let m : coalition_count g (range_with_len 0 (length d.holders)) ≤ coalition_count g (range_with_len 0 n) =
    sum_by-range-le (λ j. length (g.slice j)) (length d.holders) n (omega arith) in
    grind (arith, get_or-le-sum_by, part_slices_sum)

-- the first slice that a worker holds
begins_with : (w j : ℕ) (hs : List ℕ) (m : ℕ) → j + m ≡ w → m < length hs → ((v : ℕ) → v < m + 1 → get_or hs v 0 ≡ j + v) → (rest : List ℕ)
    × (slices_from w j hs ≡ w ∷ rest)
begins_with w j [] m e l h = absurd (omega arith)
begins_with w j (x ∷ hs) zero e l h =
    let q : x ≡ j + 0 = h 0 (omega arith) in
    let a : w ≡ x = omega arith in
    let b : j ≡ w = omega arith in (
      slices_from w (j + 1) hs,
      ap (λ (t : Bool). cond t (j ∷ slices_from w (j + 1) hs) (slices_from w (j + 1) hs)) (eq-eqb w x a)
          ∙ ap (λ (i : ℕ). i ∷ slices_from w (j + 1) hs) b,
    )
begins_with w j (x ∷ hs) (suc m) e l h =
    let q : x ≡ j + 0 = h 0 (omega arith) in
    let r = begins_with w (j + 1) hs m (omega arith) (omega arith) (λ v b. let o = h (suc v) (omega arith) in omega arith) in
    (r.0, ap (λ (t : Bool). cond t (j ∷ slices_from w (j + 1) hs) (slices_from w (j + 1) hs)) (ne_eqb w x (λ z. omega arith)) ∙ r.1)

pub first_held : (hs : List ℕ) (w : ℕ) → w < length hs → ((v : ℕ) → v < w + 1 → get_or hs v 0 ≡ v) → (rest : List ℕ)
    × (slices_held_by hs w ≡ w ∷ rest)
first_held hs w l h = begins_with w 0 hs w (omega arith) l (λ v b. omega arith)

-- the first slice of worker w is slice w, if there are more than w slices and workers
pub slices_held_begin : {n k : ℕ} {early stopped : Bool} {marks : List (Option ℕ)} (handles : List WorkerView)
    → AssignsInTurn n k early marks stopped handles → stopped ≡ false → k ≡ length handles → (w : ℕ) → w < k → w < n → (rest : List ℕ)
    × (get_or (given_slices handles) w [] ≡ w ∷ rest)
slices_held_begin handles d z e w a b =
    let o = d.begins z w a b in
    let h = first_held d.in_order.holders w o.0 (λ v u. let q = d.begins z v (omega arith) (omega arith) in q.1) in
    grind (arith, slices_held_at)
