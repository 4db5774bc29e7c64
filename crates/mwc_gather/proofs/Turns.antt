-- One turn of the scheduler.
use Rattle.mwc_gather.proofs.Imports.{range_with_len, list_any, length-map, get_or-map, map-set, All-head, All-tail, All-weaker, All-push}
use Rattle.mwc_gather.proofs.Imports.{◌≡◌, ◌⊎◌, ℕ, zero, suc, ◌+◌, ◌<◌, Bool, true, false, ◌||◌, List, [], ◌∷◌, ◌++◌, Option, Some, None}
use Rattle.mwc_gather.proofs.Imports.{length-set, length-append, or-false, or-true, get_or-map-range_with_len, false≢true, common_steps}
use Rattle.mwc_gather.proofs.Imports.{IsSome, length, map, replicate, All, refl, set, get_or, ap, subst, arith, sym, ◌∙◌, inl, inr}
use Rattle.mwc_gather.proofs.Imports.{slices_held_by, slices_by_worker, AreAssigned, WorkerView, HasNotFailed, given_slices, AssignsInTurn, TakesTurn}
use Rattle.std.proofs.{Math.Bool.or_assoc, lemmas.List.set-get_or, lemmas.List.Elements.All-set}
use Rattle.mwc_gather.specs.Table.{IsFirstFree}
use Rattle.mwc_gather.specs.Inner.Scheduling.{has_failed, AssignsInOrder, GivesNothing, GivesOne}
use Rattle.mwc_gather.proofs.PartSlices.{assigns_from}
use Rattle.std.proofs.Math.ListN as list

-- the first free slice is the one after those that have a holder
pub first_free : (hs : List ℕ) (free j : ℕ) → IsFirstFree (map Some hs ++ replicate free None) j → (j ≡ length hs) × (0 < free)
first_free [] zero j h = absurd (omega arith)
first_free [] (suc free) zero h = (refl, omega arith)
first_free [] (suc free) (suc j) h = absurd (false≢true (h.2 0 (omega arith)))
first_free (x ∷ hs) free zero h = cc
first_free (x ∷ hs) free (suc j) h = grind (arith, first_free hs free j (omega arith, h.1, λ k q. h.2 (suc k) (omega arith)))

pub set_free : (hs : List ℕ) (free w : ℕ)
    → set (map Some hs ++ replicate (suc free) None) (length hs) (Some w) ≡ map Some (hs ++ w ∷ []) ++ replicate free None
set_free [] free w = refl
set_free (x ∷ hs) free w = ap (λ (l : List (Option ℕ)). Some x ∷ l) (set_free hs free w)

pub none_free : (hs : List ℕ) (free : ℕ) → All IsSome (map Some hs ++ replicate free None) → free ≡ 0
none_free [] zero a = refl
none_free [] (suc free) a = absurd (false≢true (All-head (λ (o : Option ℕ). IsSome o) None (replicate free None) a))
none_free (x ∷ hs) free a = none_free hs free (All-tail (λ (o : Option ℕ). IsSome o) (Some x) (map Some hs ++ replicate free None) a)

module _ {X Y : Type 0} (f : X → Y) where
  pub map_set_same : (xs : List X) (i : ℕ) (x y : X) → x ≡ get_or xs i x → f y ≡ f x → map f (set xs i y) ≡ map f xs
  map_set_same xs i x y e q = map-set f xs i y ∙ ap (λ (v : Y). set (map f xs) i v) (q ∙ ap f e ∙ sym (list.get_or-map f xs i x))
      ∙ set-get_or (map f xs) i (f x)

  pub map_at : (xs : List X) (i : ℕ) (x : X) (d : Y) → i < length xs → x ≡ get_or xs i x → f x ≡ get_or (map f xs) i d
  map_at xs i x d l e = ap f e ∙ sym (get_or-map f xs i x d l)

pub slices_held_at : (hs : List ℕ) (from k w : ℕ) → w < k → get_or (map (slices_held_by hs) (range_with_len from k)) w [] ≡ slices_held_by hs (from + w)
slices_held_at hs from k w l = get_or-map-range_with_len (slices_held_by hs) from k w (from + w) [] l refl

-- what a worker was given is what it holds
pub given_is : (hs : List ℕ) (handles : List WorkerView) (i : ℕ) (s : WorkerView) → given_slices handles ≡ slices_by_worker hs (length handles)
    → i < length handles → s ≡ get_or handles i s → s.given ≡ slices_held_by hs i
given_is hs handles i s g l e =
    let z : 0 + i ≡ i = omega arith in
    map_at (λ (s : WorkerView). s.given) handles i s [] l e ∙ ap (λ (w : List (List ℕ)). get_or w i []) g ∙ slices_held_at hs 0 (length handles) i l
    ∙ ap (slices_held_by hs) z

-- a refusal that was met stays met
or_stays : (a b c d : Bool) → (c ≡ false → a ≡ false) → (d ≡ false → b ≡ false) → (a || b) ≡ true → (c || d) ≡ true
or_stays a b true d p q e = refl
or_stays a b false true p q e = refl
or_stays a b false false p q e =
    let x = p refl in
    let y = q refl in sym (ap (λ (z : Bool). z || b) x ∙ y) ∙ e

pub not_ill : (s : WorkerView) → HasNotFailed s → has_failed s ≡ false
not_ill s w = ap (λ (z : Bool). z || s.cut) w.0 ∙ w.1

or_moves : (a b c : Bool) → (c ≡ true → a ≡ true) → (a || b) ≡ ((c || b) || a)
or_moves true b c h = sym (or-true (c || b))
or_moves false b true h = absurd (false≢true (h refl))
or_moves false b false h = sym (or-false b)

ill_set : (handles : List WorkerView) (i : ℕ) (s t : WorkerView) → i < length handles → s ≡ get_or handles i s → (has_failed s ≡ true → has_failed t ≡ true)
    → list_any has_failed (set handles i t) ≡ (list_any has_failed handles || has_failed t)
ill_set [] i s t l e h = absurd (omega arith)
ill_set (x ∷ handles) zero s t l e h = or_moves (has_failed t) (list_any has_failed handles) (has_failed x) (λ q. h (ap has_failed e ∙ q))
ill_set (x ∷ handles) (suc i) s t l e h = grind (arith, ill_set handles i s t (omega arith) e h, or_assoc)

-- the scheduler is stopped exactly if it should be, after a turn too
pub stops_then : (early : Bool) (handles : List WorkerView) (stopped stops : Bool) (i : ℕ)
    (s t : WorkerView) {done : Bool} {marks after : List (Option ℕ)} → i < length handles → s ≡ get_or handles i s
    → TakesTurn done marks stopped s i after stops t → stopped ≡ (early || list_any has_failed handles)
    → stops ≡ (early || list_any has_failed (set handles i t))
stops_then early handles stopped stops i s t l e r h = grind (arith, ill_set, or_assoc, or_stays)

pub stays_by : (a b x : Bool) → b ≡ (a || x) → a ≡ true → b ≡ true
stays_by a b x e h = e ∙ ap (λ (z : Bool). z || x) h

pub none_ill : (handles : List WorkerView) → All HasNotFailed handles → list_any has_failed handles ≡ false
none_ill [] a = refl
none_ill (s ∷ handles) a = ap (λ (z : Bool). z || list_any has_failed handles) (not_ill s (All-head HasNotFailed s handles a))
    ∙ none_ill handles (All-tail HasNotFailed s handles a)

-- if no start failed and nothing was refused, the scheduler goes on
pub well_goes_on : {n k : ℕ} {early stopped : Bool} {marks : List (Option ℕ)} (handles : List WorkerView) → early ≡ false
    → AssignsInTurn n k early marks stopped handles → All HasNotFailed handles → stopped ≡ false
well_goes_on handles z d a = d.in_order.stops_are ∙ ap (λ (b : Bool). b || list_any has_failed handles) z ∙ none_ill handles a

pub still : (a b : Bool) → (a ≡ true → b ≡ true) → b ≡ false → a ≡ false
still true b h e = let q = h refl in cc
still false b h e = refl

pub later : (P : Type 0) (a b : Bool) → (a ≡ true → b ≡ true) → P ⊎ (a ≡ true) → P ⊎ (b ≡ true)
later P a b h (inl p) = inl p
later P a b h (inr q) = inr (h q)

pub at_read : (P : WorkerView → Type 0) (handles : List WorkerView) (i : ℕ) (s : WorkerView) → i < length handles → s ≡ get_or handles i s
    → All P handles → P s
at_read P handles i s l e a = subst P (sym e) (a i s l)

-- nothing was given
unfoldable pub turn_nothing : {n : ℕ} {done early stopped stops : Bool} {marks after : List (Option ℕ)} (handles : List WorkerView) (i : ℕ)
    (s t : WorkerView) → i < length handles → s ≡ get_or handles i s
    → AssignsInOrder n early marks stopped handles → TakesTurn done marks stopped s i after stops t → GivesNothing done marks s after stops t
    → AssignsInOrder n early after stops (set handles i t)
turn_nothing {n} {done} {early} {stopped} {stops} {marks} {after} handles i s t l e d r g =
    let stays : stopped ≡ true → stops ≡ true = stays_by stopped stops (has_failed t) r.stops_are in
    let same : length (set handles i t) ≡ length handles = length-set handles i t in
    record {
      holders = d.holders;
      free = d.free;
      marks_are = g.marks_stay ∙ d.marks_are;
      all_slices = d.all_slices;
      by_workers = subst (λ (m : ℕ). All (λ h. h < m) d.holders) (sym same) d.by_workers;
      given_are = map_set_same (λ (s : WorkerView). s.given) handles i s t e g.given_stay ∙ d.given_are ∙ ap (slices_by_worker d.holders) (sym same);
      dismissed_late = All-set (λ (s : WorkerView). s.dismissed ≡ true → (d.free ≡ 0) ⊎ (stops ≡ true)) handles i t
          (λ q. elim (g.dismissed_if q) [
            | inl old ↦ later (d.free ≡ 0) stopped stops stays
                (at_read (λ (s : WorkerView). s.dismissed ≡ true → (d.free ≡ 0) ⊎ (stopped ≡ true)) handles i s l e d.dismissed_late old)
            | inr why ↦ elim why [
              | inl all ↦ inl
                  (none_free d.holders d.free (subst (λ (m : List (Option ℕ)). All IsSome m) d.marks_are all))
              | inr z ↦ inr z
            ]
          ])
          (All-weaker (λ (s : WorkerView). s.dismissed ≡ true → (d.free ≡ 0) ⊎ (stopped ≡ true))
          (λ (s : WorkerView). s.dismissed ≡ true → (d.free ≡ 0) ⊎ (stops ≡ true))
          (λ x h q. later (d.free ≡ 0) stopped stops stays (h q)) handles d.dismissed_late);
      stops_are = stops_then early handles stopped stops i s t l e r d.stops_are;
      none_early = d.none_early;
    }

pub above : (free : ℕ) → 0 < free → (f : ℕ) × (free ≡ suc f)
above zero l = absurd (omega arith)
above (suc f) l = (f, refl)

-- the lowest slice was given
unfoldable pub turn_one : {n : ℕ} {done early stopped stops : Bool} {marks after : List (Option ℕ)} (handles : List WorkerView) (i : ℕ)
    (s t : WorkerView) → i < length handles → s ≡ get_or handles i s
    → AssignsInOrder n early marks stopped handles → TakesTurn done marks stopped s i after stops t → GivesOne done marks stops s i after t
    → AssignsInOrder n early after stops (set handles i t)
turn_one {n} {done} {early} {stopped} {stops} {marks} {after} handles i s t l e d r g =
    let stays : stopped ≡ true → stops ≡ true = stays_by stopped stops (has_failed t) r.stops_are in
    let same : length (set handles i t) ≡ length handles = length-set handles i t in
    let hs : List ℕ = d.holders in
    let z : 0 + i ≡ i = omega arith in
    let first = first_free hs d.free g.slice (subst (λ (m : List (Option ℕ)). IsFirstFree m g.slice) d.marks_are g.lowest) in
    let few = above d.free first.1 in
    let f : ℕ = few.0 in
    let one : t.given ≡ slices_held_by hs i ++ length hs ∷ [] = g.given
    ∙ ap (λ (w : List ℕ). w ++ g.slice ∷ []) (given_is hs handles i s d.given_are l e)
    ∙ ap (λ (j : ℕ). slices_held_by hs i ++ j ∷ []) first.0 in
    let longer : length (hs ++ i ∷ []) ≡ length hs + 1 = length-append hs (i ∷ []) in
    record {
      holders = hs ++ i ∷ [];
      free = f;
      marks_are = g.marked ∙ ap (λ (m : List (Option ℕ)). set m g.slice (Some i)) d.marks_are
          ∙ ap (λ (j : ℕ). set (map Some hs ++ replicate d.free None) j (Some i)) first.0
          ∙ ap (λ (q : ℕ). set (map Some hs ++ replicate q None) (length hs) (Some i)) few.1
          ∙ set_free hs f i;
      all_slices = omega arith;
      by_workers = subst (λ (m : ℕ). All (λ h. h < m) (hs ++ i ∷ [])) (sym same) (All-push (λ h. h < length handles) hs i d.by_workers l);
      given_are = map-set (λ (s : WorkerView). s.given) handles i t ∙ ap (λ (w : List (List ℕ)). set w i t.given) d.given_are
          ∙ ap (λ (w : List ℕ). set (slices_by_worker hs (length handles)) i w) one
          ∙ sym (assigns_from hs i 0 (length handles) i z l) ∙ ap (slices_by_worker (hs ++ i ∷ [])) (sym same);
      dismissed_late = All-set (λ (s : WorkerView). s.dismissed ≡ true → (f ≡ 0) ⊎ (stops ≡ true)) handles i t
          (λ q. absurd (false≢true (sym g.dismissed_not ∙ q)))
          (All-weaker (λ (s : WorkerView). s.dismissed ≡ true → (d.free ≡ 0) ⊎ (stopped ≡ true))
          (λ (s : WorkerView). s.dismissed ≡ true → (f ≡ 0) ⊎ (stops ≡ true))
          (λ x h q. elim (h q) [ inl none ↦ absurd (omega arith) | inr y ↦ inr (stays y) ]) handles d.dismissed_late);
      stops_are = stops_then early handles stopped stops i s t l e r d.stops_are;
      none_early = λ z. absurd (false≢true (sym g.goes_on ∙ stays (stays_by early stopped (list_any has_failed handles) d.stops_are z)));
    }

-- a worker that holds the slice of its number still holds it when one more is given
pub still_held : (hs : List ℕ) (i w : ℕ) → (w < length hs) × (get_or hs w 0 ≡ w) → (w < length (hs ++ i ∷ []))
    × (get_or (hs ++ i ∷ []) w 0 ≡ w)
still_held hs i w h = grind (arith, common_steps)

-- a scheduler that goes on after a turn went on before it
pub went_on : {done stopped stops : Bool} {marks after : List (Option ℕ)} (s t : WorkerView) (w : ℕ)
    → TakesTurn done marks stopped s w after stops t → stops ≡ false → stopped ≡ false
went_on {done} {stopped} {stops} s t w r = still stopped stops (stays_by stopped stops (has_failed t) r.stops_are)

-- a turn keeps the scheduler
pub turn : {n k : ℕ} {done early stopped stops : Bool} {marks after : List (Option ℕ)} (handles : List WorkerView) (i : ℕ) (s t : WorkerView)
    → i < length handles → s ≡ get_or handles i s
    → AssignsInTurn n k early marks stopped handles → TakesTurn done marks stopped s i after stops t
    → AssignsInTurn n k early after stops (set handles i t)
unfolding turn_nothing turn_one
turn handles i s t l e d r =
    elim r.gives [
      | inl g ↦ record {
        in_order = turn_nothing handles i s t l e d.in_order r g;
        begins = λ z. d.begins (went_on s t i r z);
      }
      | inr g ↦ record {
        in_order = turn_one handles i s t l e d.in_order r g;
        begins = λ z w v u. still_held d.in_order.holders i w (d.begins (went_on s t i r z) w v u);
      }
    ]

none_left : {free : ℕ} {stopped : Bool} (handles : List WorkerView) → 0 < length handles → stopped ≡ false
    → All (λ (s : WorkerView). s.dismissed ≡ true → (free ≡ 0) ⊎ (stopped ≡ true)) handles → All (λ (s : WorkerView). s.dismissed ≡ true) handles → free ≡ 0
none_left [] l z a b = absurd (omega arith)
none_left {free} {stopped} (s ∷ handles) l z a b =
    elim (All-head (λ (s : WorkerView). s.dismissed ≡ true → (free ≡ 0) ⊎ (stopped ≡ true)) s handles a
    (All-head (λ (s : WorkerView). s.dismissed ≡ true) s handles b)) [
      | inl e ↦ e
      | inr y ↦ absurd (false≢true (sym z ∙ y))
    ]

-- if nothing was refused, and a worker was dismissed, all slices are given
pub all_assigned : {n k : ℕ} {stopped early : Bool} {marks : List (Option ℕ)} (handles : List WorkerView) → early ≡ false → 0 < length handles
    → AssignsInTurn n k early marks stopped handles → All HasNotFailed handles → All (λ (s : WorkerView). s.dismissed ≡ true) handles
    → AreAssigned n (given_slices handles)
all_assigned {n} {k} {stopped} {early} {marks} handles z l scheduler well dismissed =
    let d = scheduler.in_order in
    let same : length (given_slices handles) ≡ length handles = length-map handles (λ (s : WorkerView). s.given) in
    let go : stopped ≡ false = well_goes_on handles z scheduler well in
    let none : d.free ≡ 0 = none_left handles l go d.dismissed_late dismissed in grind arith
