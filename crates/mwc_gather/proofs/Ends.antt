-- The end of gathering.
use Rattle.mwc_gather.proofs.Imports.{common_steps, nat_tests, ◌≡◌, ℕ, ◌<◌, ◌≤◌, Bool, true, false, List, [], ◌∷◌, ◌++◌, Option, Some, None}
use Rattle.mwc_gather.proofs.Imports.{IsComplete, get_or-map, IsStrictlyIncreasing, TooMany, part_slices, HasNotFailed, All-head, All-tail, Slicing}
use Rattle.mwc_gather.proofs.Imports.{sum_by, sum_by-cons, coalition_count, WorkerView, IsFresh, AssignsTo, given_slices, AreAssigned, first_of}
use Rattle.mwc_gather.proofs.Imports.{length, map, refl, AllZip, get_or, append_assoc, ap, subst, arith, sym, ◌∙◌, length-map, map_push}
use Rattle.mwc_gather.proofs.Imports.{IsPart, Part, GatherFault, Memory, WorkerHandle, Scheduler, view_of, views_of, All, IsPartOfWorker, all_total}
use Rattle.mwc_gather.proofs.Readings.{length-joined}
use Rattle.std.proofs.{Common.slice_get, lemmas.Slice.Zip.AllZip-long}
use Rattle.mwc_gather.specs.declared.fault.GatherFault.TheVariants.{Start, Ring}
use Rattle.mwc_gather.proofs.Firsts.{each_within, assigned_total, assigned_increase, slices_held_begin}
use Rattle.mwc_gather.proofs.Turns as turns

module _ {X Y : Type 0} where
  all_of_map : (P : Y → Type 0) (f : X → Y) (xs : List X) → All P (map f xs) → All (λ x. P (f x)) xs
  all_of_map P f xs a = λ k d l. let n = length-map xs f in subst P (get_or-map f xs k d (f d) l) (a k (f d) (omega arith))

pub handles_within : {g : Slicing} {most : ℕ} {early : Bool} {scheduler : Scheduler} (handles : List WorkerHandle)
    → AssignsTo g most early scheduler handles → All (λ (d : WorkerHandle). coalition_count g d.given.items ≤ all_total g) handles
handles_within {g} handles h =
    all_of_map (λ (s : WorkerView). coalition_count g s.given ≤ all_total g) view_of handles
    (all_of_map (λ (s : List ℕ). coalition_count g s ≤ all_total g) (λ (s : WorkerView). s.given) (views_of handles)
    (each_within g (views_of handles) h.scheduling))

-- what is true of handles and of their parts
record HaveParts (g : Slicing) (handles : List WorkerHandle) (parts : List Part) : Type 0 where
  slices_are : part_slices parts ≡ given_slices (views_of handles)
  well : All HasNotFailed (views_of handles)
  dismissed : All (λ (s : WorkerView). s.dismissed ≡ true) (views_of handles)
  are_parts : All (IsPart g) parts

have_parts : (g : Slicing) (handles : List WorkerHandle) (parts : List Part) → AllZip (IsPartOfWorker g) handles parts → HaveParts g handles parts
have_parts g [] [] z = grind arith
have_parts g [] (p ∷ parts) z = absurd z
have_parts g (d ∷ handles) [] z = absurd z
have_parts g (d ∷ handles) (p ∷ parts) z = grind (arith, have_parts g handles parts z.1)

parts_sum : (g : Slicing) (parts : List Part) → All (IsPart g) parts
    → sum_by (λ (p : Part). length p.got.items) parts ≡ sum_by (coalition_count g) (part_slices parts)
parts_sum g [] a = refl
parts_sum g (p ∷ parts) a =
    let part = All-head (IsPart g) p parts a in
    let x = ap length part.0 in
    let b = length-joined g p.slices.items in
    let c = parts_sum g parts (All-tail (IsPart g) p parts a) in grind (arith, nat_tests, common_steps, sum_by-cons)

-- all parts have as many coalitions as the slices
pub complete_sum : {g : Slicing} {workers : ℕ} {parts : List Part} → IsComplete g workers parts
    → sum_by (λ (p : Part). length p.got.items) parts ≡ all_total g
complete_sum {g} {workers} {parts} c = parts_sum g parts c.are_parts ∙ assigned_total g c.assigned

pub end_increases : {n : ℕ} (parts : List Part) → AreAssigned n (part_slices parts) → All (λ (p : Part). IsStrictlyIncreasing p.slices.items) parts
end_increases parts d = all_of_map IsStrictlyIncreasing (λ (p : Part). p.slices.items) parts (assigned_increase d)

pub fresh_push : (handles : List WorkerHandle) (d : WorkerHandle) → All IsFresh (views_of handles) → IsFresh (view_of d)
    → All IsFresh (views_of (handles ++ d ∷ []))
fresh_push handles d a f = grind (arith, nat_tests, common_steps, map_push)

-- TooMany is answered only after TooMany
pub first_is_many : (met : Option GatherFault) (why : GatherFault) → first_of met why ≡ TooMany → why ≡ TooMany
first_is_many None why e = e
first_is_many (Some Start) why e = cc
first_is_many (Some Memory) Start e = cc
first_is_many (Some Memory) Memory e = cc
first_is_many (Some Memory) Ring e = cc
first_is_many (Some Memory) TooMany e = refl
first_is_many (Some Ring) Start e = cc
first_is_many (Some Ring) Memory e = cc
first_is_many (Some Ring) Ring e = cc
first_is_many (Some Ring) TooMany e = refl
first_is_many (Some TooMany) why e = e

pub head_of : {X : Type 0} (P : X → Type 0) (x : X) (xs ys : List X) → ys ≡ x ∷ xs → All P ys → P x
head_of {X} P x xs ys e a = All-head P x xs (subst (λ (l : List X). All P l) e a)

pub one_done : (done rest old all : List WorkerHandle) (d : WorkerHandle) → old ≡ d ∷ rest → done ++ old ≡ all → (done ++ d ∷ []) ++ rest ≡ all
one_done done rest old all d e f = append_assoc done (d ∷ []) rest ∙ ap (λ (w : List WorkerHandle). done ++ w) (sym e) ∙ f

-- if there was no fault, the parts are complete
pub completes : {g : Slicing} {most workers : ℕ} {early : Bool} {scheduler : Scheduler} (handles : List WorkerHandle) (parts : List Part)
    → AssignsTo g most early scheduler handles → early ≡ false → length handles ≡ workers → 0 < workers
    → AllZip (IsPartOfWorker g) handles parts → IsComplete g workers parts
completes {g} handles parts h e k l z =
    let have = have_parts g handles parts z in
    let same = AllZip-long (IsPartOfWorker g) handles parts z in
    let n = length-map handles view_of in
    let shared = sym have.slices_are in
    record {
      a_part_each = omega arith;
      assigned = subst (λ (s : List (List ℕ)). AreAssigned g.slices s) shared
          (turns.all_assigned (views_of handles) e (omega arith) h.scheduling have.well have.dismissed);
      are_parts = have.are_parts;
      begins = λ w below slice.
          let first = slices_held_begin (views_of handles) h.scheduling (turns.well_goes_on (views_of handles) e h.scheduling have.well)
          (omega arith) w (omega arith) slice in
          ap (λ (s : List ℕ). slice_get s 0) (ap (λ (s : List (List ℕ)). get_or s w []) have.slices_are ∙ first.1);
    }
