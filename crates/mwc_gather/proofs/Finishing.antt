-- Workers that are joined, one after another.
use Rattle.mwc_gather.specs.Inner.Fault.{first_of_all}
use Rattle.mwc_gather.proofs.Imports.{TooMany, Part, GatherFault, WorkerHandle, Scheduler, IsOf, AllOf, CanEndWith, IsPartOfWorker, ◌≡◌, ℕ, ◌<◌, ◌≤◌, Bool}
use Rattle.mwc_gather.proofs.Imports.{List, [], ◌∷◌, ◌++◌, Option, Some, None, All, length, refl, is_some, AllZip, ap, subst, arith, sym}
use Rattle.mwc_gather.proofs.Imports.{◌∙◌, append-nil, Slicing, coalition_count, AssignsTo, all_total, IsComplete, first_of, Memory}
use Rattle.std.proofs.lemmas.{List.Elements.All-rest, Slice.Zip.all_zipped_more}
use Rattle.mwc_gather.proofs.Ends.{first_is_many, head_of, one_done, handles_within, completes}

-- one more answer
noted_more : (m : Option GatherFault) (whys : List (Option GatherFault)) (w : Option GatherFault)
    → first_of_all m (whys ++ w ∷ []) ≡ first_of_all (first_of_all m whys) (w ∷ [])
noted_more m [] w = refl
noted_more m (None ∷ whys) w = noted_more m whys w
noted_more m (Some v ∷ whys) w = noted_more (Some (first_of m v)) whys w

pub noted_after : (start met after : Option GatherFault) (whys : List (Option GatherFault)) (w : Option GatherFault) → met ≡ first_of_all start whys
    → after ≡ first_of_all met (w ∷ []) → after ≡ first_of_all start (whys ++ w ∷ [])
noted_after start met after whys w e f = f ∙ ap (λ (m : Option GatherFault). first_of_all m (w ∷ [])) e ∙ sym (noted_more start whys w)

-- if there is no room for a part
pub memory_ends : (g : Slicing) (most : ℕ) (d : WorkerHandle) → CanEndWith g most d (Some Memory)
memory_ends g most d = (λ e. cc, λ e. refl, λ e. absurd cc)

-- some of the workers have ended, and the rest are still to be joined: what was met follows from
-- their answers; if there was no fault, all of them are parts
pub record Finishing (g : Slicing) (most : ℕ) (start : Option GatherFault) (handles rest : List WorkerHandle) (met : Option GatherFault) (parts : List Part) : Type 0 where
  pub all_of : AllOf g most rest
  pub within : All (λ (d : WorkerHandle). coalition_count g d.given.items ≤ all_total g) rest
  pub many : met ≡ Some TooMany → most < all_total g
  pub done : List WorkerHandle
  pub split : done ++ rest ≡ handles
  pub whys : List (Option GatherFault)
  pub ends : AllZip (CanEndWith g most) done whys
  pub met_is : met ≡ first_of_all start whys
  pub none : met ≡ None → (start ≡ None) × AllZip (IsPartOfWorker g) done parts

-- no worker is joined yet
pub none_joined : {g : Slicing} {most : ℕ} {start : Option GatherFault} {handles rest : List WorkerHandle} {parts : List Part} → rest ≡ handles → parts ≡ []
    → {early : Bool} {scheduler : Scheduler} → AssignsTo g most early scheduler handles
    → (start ≡ Some TooMany → ⊥) → Finishing g most start handles rest start parts
none_joined {handles = handles} e f h few =
    rw (e, f) (record {
      all_of = h.all_of;
      within = handles_within handles h;
      many = λ z. absurd (few z);
      done = [];
      split = refl;
      whys = [];
      ends = tt;
      met_is = refl;
      none = λ n. (n, tt);
    })

module _ {g : Slicing} {most : ℕ} {start met after : Option GatherFault} {handles old rest : List WorkerHandle} {parts left : List Part} where
  -- one more has ended
  one_ended : (d : WorkerHandle) (w : Option GatherFault) (f : Finishing g most start handles old met parts) → old ≡ d ∷ rest
      → after ≡ first_of_all met (w ∷ []) → CanEndWith g most d w → (after ≡ Some TooMany → most < all_total g)
      → (after ≡ None → (start ≡ None) × AllZip (IsPartOfWorker g) (f.done ++ d ∷ []) left)
      → Finishing g most start handles rest after left
  one_ended d w f step e ends many none =
      record {
        all_of = All-rest (IsOf g most) d rest old step f.all_of;
        within = All-rest (λ (d : WorkerHandle). coalition_count g d.given.items ≤ all_total g) d rest old step f.within;
        many = many;
        done = f.done ++ d ∷ [];
        split = one_done f.done rest old handles d step f.split;
        whys = f.whys ++ w ∷ [];
        ends = all_zipped_more (CanEndWith g most) f.done f.whys d w f.ends ends;
        met_is = noted_after start met after f.whys w f.met_is e;
        none = none;
      }

  -- with a fault
  pub fault_met : (d : WorkerHandle) (why : GatherFault) → Finishing g most start handles old met parts → old ≡ d ∷ rest → after ≡ Some (first_of met why)
      → (IsOf g most d → CanEndWith g most d (Some why)) → Finishing g most start handles rest after left
  fault_met d why f step e own =
      let within : WorkerHandle → Type 0 = λ d. coalition_count g d.given.items ≤ all_total g in
      let ends = own (head_of (IsOf g most) d rest old step f.all_of) in
      let few : within d = head_of within d rest old step f.within in
      one_ended d (Some why) f step e ends
      (λ z. let over = ends.2 (first_is_many met why cc) in omega arith) (λ n. cc)

  -- with a part
  pub part_kept : (d : WorkerHandle) (p : Part) → Finishing g most start handles old met parts → old ≡ d ∷ rest → left ≡ parts ++ p ∷ []
      → after ≡ met → (IsOf g most d → IsPartOfWorker g d p) → (IsOf g most d → CanEndWith g most d None)
      → Finishing g most start handles rest after left
  part_kept d p f step e same part ends =
      let own = head_of (IsOf g most) d rest old step f.all_of in
      one_ended d None f step same (ends own) (λ z. f.many (sym same ∙ z))
      (λ n. let kept = f.none (sym same ∙ n) in
      (kept.0, rw e (all_zipped_more (IsPartOfWorker g) f.done parts d p kept.1 (part own))))

-- all have ended: if there was no fault, the parts are complete
pub all_complete : {g : Slicing} {most workers : ℕ} {start met : Option GatherFault} {scheduler : Scheduler} (handles rest : List WorkerHandle)
    (parts : List Part) → Finishing g most start handles rest met parts → rest ≡ [] → met ≡ None
    → AssignsTo g most (is_some start) scheduler handles → length handles ≡ workers → 0 < workers → IsComplete g workers parts
all_complete {g} handles rest parts f e n h same some =
    let kept = f.none n in
    let all = sym (append-nil f.done) ∙ ap (λ (w : List WorkerHandle). f.done ++ w) (sym e) ∙ f.split in
    completes handles parts h (ap is_some kept.0) same some (subst (λ (x : List WorkerHandle). AllZip (IsPartOfWorker g) x parts) all kept.1)
