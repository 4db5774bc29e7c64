-- What holds after every list of steps.
use Rattle.std.proofs.Common.{slice_get, take, refl, ap, sym, ◌∙◌, arith, suc, zero, length-append, length-drop, get_or, zero-add, add-zero}
use Rattle.std.proofs.Common.{◌≡◌, ℕ, ◌+◌, ◌<◌, ◌≤◌, Bool, true, false, ◌||◌, List, [], ◌∷◌, ◌++◌, length, Option, Some, None, filter_map}
use Rattle.std.proofs.Common.{option_to_list}
use Rattle.std.proofs.{Math.Bool.or-false, Math.Bool.or-true, Math.Bool.or_assoc, lemmas.List.Elements.filter_map-append}
use Rattle.std.proofs.lemmas.{Bool.Decides.nat_tests, List.map-append, List.take_more, List.Folds.list_any-append, Option.slice_get-map}
use Rattle.std.proofs.lemmas.{Bool.cases_Bool, Grind.common_steps}
use Rattle.std.specs.List.{list_any}
use Rattle.mwc_pipe.specs.declared.{step.Reply.Reply, step.Reply.TheVariants.Accepted, step.Reply.TheVariants.First, step.Step.Step}
use Rattle.mwc_pipe.specs.declared.step.Step.TheVariants.{Put, Take, Close}
use Rattle.mwc_pipe.specs.PipeView.{PipeView, Leaves, IsStep}
use Rattle.mwc_pipe.specs.History.{Event, item_in, item_out, is_close, has_close, items_in, items_out, reply_to, history_after, history}
use Rattle.mwc_pipe.specs.History.{replies}
use Rattle.mwc_pipe.specs.Laws.{NothingIsLost, NothingEntersAfterClose, EachReplyIsCounted, HasPast}
use Rattle.mwc_pipe.proofs.Counting.{holding, stepped, reply_is, leaves_step, inside_count, get_after}

get_first : {X : Type 0} (xs ys : List X) (k : ℕ) (x : X) → slice_get xs k ≡ Some x → slice_get (xs ++ ys) k ≡ Some x
get_first [] ys k x e = absurd (cc)
get_first (y ∷ xs) ys zero x e = e
get_first (y ∷ xs) ys (suc k) x e = get_first xs ys k x e

one_out : {X Y : Type 0} (f : X → Option Y) (x : X) (o : Option Y) → f x ≡ o → option_to_list o ≡ filter_map f (x ∷ [])
one_out f x (Some y) e = rw e refl
one_out f x None e = rw e refl

module _ {T : Type 0} where
  -- one more step comes after the history of the others
  pub history_after_more : (capacity : ℕ) (past : List (Event T)) (steps : List (Step T)) (step : Step T) →
      history_after capacity past (steps ++ step ∷ [])
      ≡ history_after capacity past steps ++ (step, reply_to capacity (history_after capacity past steps) step) ∷ []
  history_after_more capacity past [] step = refl
  history_after_more capacity past (s ∷ ss) step = history_after_more capacity (past ++ (s, reply_to capacity past s) ∷ []) ss step

  -- a pipe of this capacity may hold what the past left
  pub record Kept (capacity : ℕ) (past : List (Event T)) : Type 0 where
    pub pipe : PipeView T
    pub leaves : Leaves past pipe
    pub same : pipe.capacity ≡ capacity
    pub short : length pipe.inside ≤ pipe.capacity

  -- no step leaves more inside than the capacity
  short_step : (pipe : PipeView T) (step : Step T) → length pipe.inside ≤ pipe.capacity → length (stepped pipe step).inside ≤ pipe.capacity
  short_step pipe (Put x) short = grind (arith, common_steps, nat_tests, cases_Bool)
  short_step pipe Take short = omega (arith, length-drop 1 pipe.inside)
  short_step pipe Close short = short

  kept_step : (capacity : ℕ) (past : List (Event T)) (step : Step T) → Kept capacity past →
      Kept capacity (past ++ (step, reply_to capacity past step) ∷ [])
  kept_step capacity past step kept = record {
    pipe = stepped kept.pipe step;
    leaves = rw (← kept.same, reply_is past kept.pipe step kept.leaves) (leaves_step past kept.pipe step kept.leaves);
    same = kept.same;
    short = short_step kept.pipe step kept.short;
  }

  pub kept_after : (capacity : ℕ) (past : List (Event T)) (steps : List (Step T)) → Kept capacity past
      → Kept capacity (history_after capacity past steps)
  kept_after capacity past [] kept = kept
  kept_after capacity past (step ∷ steps) kept =
      kept_after capacity (past ++ (step, reply_to capacity past step) ∷ []) steps (kept_step capacity past step kept)

  pub kept_history : (capacity : ℕ) (steps : List (Step T)) → Kept capacity (history capacity steps)
  kept_history capacity steps = kept_after capacity [] steps (record {
    pipe = record { capacity = capacity; inside = []; closed = false };
    leaves = record { lawful = refl; closed = refl };
    same = refl;
    short = omega arith;
  })

  pub nothing_is_lost_lem : (capacity : ℕ) (steps : List (Step T)) → NothingIsLost capacity steps
  nothing_is_lost_lem capacity steps =
      let kept = kept_history capacity steps in (kept.pipe.inside, kept.leaves.lawful, omega (arith, kept.same, kept.short))

  -- a close among the steps is a close in the history
  pub shut_after : (capacity : ℕ) (past : List (Event T)) (steps : List (Step T)) →
      has_close (history_after capacity past steps) ≡ (has_close past || list_any is_close steps)
  shut_after capacity past [] = sym (or-false (has_close past))
  shut_after capacity past (step ∷ steps) =
      shut_after capacity (past ++ (step, reply_to capacity past step) ∷ []) steps
      ∙ rw (list_any-append (λ event. is_close event.0) past ((step, reply_to capacity past step) ∷ []), or-false)
      (or_assoc (has_close past) (is_close step) (list_any is_close steps))

  -- what is in the past is in the history
  get_past : (capacity : ℕ) (past : List (Event T)) (steps : List (Step T)) (k : ℕ) (event : Event T) →
      slice_get past k ≡ Some event → slice_get (history_after capacity past steps) k ≡ Some event
  get_past capacity past [] k event e = e
  get_past capacity past (step ∷ steps) k event e =
      get_past capacity (past ++ (step, reply_to capacity past step) ∷ []) steps k event (get_first past _ k event e)

  -- the event at place k is the step at place k and the reply to it after the first k steps
  pub event_at : (capacity : ℕ) (past : List (Event T)) (steps : List (Step T)) (k : ℕ) (step : Step T) →
      slice_get steps k ≡ Some step →
      slice_get (history_after capacity past steps) (length past + k)
      ≡ Some (step, reply_to capacity (history_after capacity past (take k steps)) step)
  event_at capacity past [] k step e = absurd (cc)
  event_at capacity past (s ∷ steps) zero step e =
      let same : s ≡ step = cc in
      rw (add-zero, ← same) (get_past capacity _ steps (length past) (s, reply_to capacity past s) (get_after past _))
  event_at capacity past (s ∷ steps) (suc k) step e =
      let more = event_at capacity (past ++ (s, reply_to capacity past s) ∷ []) steps k step e in
      let place : length (past ++ (s, reply_to capacity past s) ∷ []) + k ≡ length past + suc k =
      omega (arith, length-append past ((s, reply_to capacity past s) ∷ [])) in
      rw (← place) more

  close_before : (steps : List (Step T)) (i k : ℕ) → i < k → slice_get steps i ≡ Some Close → list_any is_close (take k steps) ≡ true
  close_before [] i k less e = absurd (cc)
  close_before (s ∷ steps) i zero less e = absurd (omega arith)
  close_before (s ∷ steps) zero (suc k) less e = let same : s ≡ Close = cc in rw same refl
  close_before (s ∷ steps) (suc i) (suc k) less e = rw (close_before steps i k (omega arith) e, or-true) refl

  pub nothing_enters_after_close_lem : (capacity : ℕ) (steps : List (Step T)) → NothingEntersAfterClose steps (replies capacity steps)
  nothing_enters_after_close_lem capacity steps i k x less close put =
      let event = event_at capacity [] steps k (Put x) put in
      let was_shut = shut_after capacity [] (take k steps) ∙ close_before steps i k less close in
      rw (slice_get-map, ← zero-add k, event, was_shut) refl

  -- what is there after these steps
  pub record Replayed (capacity : ℕ) (steps : List (Step T)) (given : List (Reply T)) (ins outs : List T) (pipe : PipeView T) : Type 0 where
    pub given_is : given ≡ replies capacity steps
    pub ins_is : ins ≡ items_in (history capacity steps)
    pub outs_is : outs ≡ items_out (history capacity steps)
    pub leaves : Leaves (history capacity steps) pipe
    pub same : pipe.capacity ≡ capacity

  -- the pipe is closed if a close is among the steps
  pub replayed_closed : (capacity : ℕ) (steps : List (Step T)) (pipe : PipeView T) →
      Leaves (history capacity steps) pipe → pipe.closed ≡ list_any is_close steps
  replayed_closed capacity steps pipe leaves = leaves.closed ∙ shut_after capacity [] steps

  -- at most the capacity is inside
  pub replayed_short : (capacity : ℕ) (steps : List (Step T)) (pipe : PipeView T) →
      Leaves (history capacity steps) pipe → length pipe.inside ≤ capacity
  replayed_short capacity steps pipe leaves =
      let past : List (Event T) = history capacity steps in
      let kept = kept_history capacity steps in
      omega (arith, inside_count past pipe leaves, inside_count past kept.pipe kept.leaves, kept.same, kept.short)

  -- one step more
  pub replayed_next : (capacity : ℕ) (steps : List (Step T)) (i : ℕ) (given given' : List (Reply T)) (ins ins' outs outs' : List T)
      (old new : PipeView T) (step : Step T) (reply : Reply T) →
      Replayed capacity (take i steps) given ins outs old → IsStep old step reply new →
      i < length steps → step ≡ get_or steps i step →
      given' ≡ given ++ reply ∷ [] →
      ins' ≡ ins ++ option_to_list (item_in (step, reply)) →
      outs' ≡ outs ++ option_to_list (item_out (step, reply)) →
      Replayed capacity (take (i + 1) steps) given' ins' outs' new
  replayed_next capacity steps i given given' ins ins' outs outs' old new step reply so_far next less at eg eins eouts =
      let longer : take (i + 1) steps ≡ take i steps ++ step ∷ [] =
      take_more steps i step less ∙ ap (λ s. take i steps ++ s ∷ []) (sym at) in
      rw (longer, eg, eins, eouts) (grind (arith, common_steps, filter_map-append, history_after_more, map-append, one_out))

  pub each_reply_is_counted_lem : (capacity : ℕ) (steps : List (Step T)) → EachReplyIsCounted capacity steps
  each_reply_is_counted_lem capacity steps k step at = grind (arith, common_steps, event_at, slice_get-map, zero-add)

  -- the history of a pipe that is only filled
  abbrev filled : List T → List (Event T)
  filled [] = []
  filled (x ∷ xs) = (Put x, Accepted) ∷ filled xs

  filled_is : (xs : List T) → (items_in (filled xs) ≡ xs) × (items_out (filled xs) ≡ []) × (has_close (filled xs) ≡ false)
  filled_is [] = (refl, refl, refl)
  filled_is (x ∷ xs) = let (came, gone, shut) = filled_is xs in (ap (λ ys. x ∷ ys) came, gone, shut)

  leaves_filled : (capacity : ℕ) (xs : List T) → Leaves (filled xs) (holding capacity xs false)
  leaves_filled capacity xs = let (came, gone, shut) = filled_is xs in record { lawful = rw (gone, came) refl; closed = sym shut }

  past_of : (capacity : ℕ) (xs : List T) (closed : Bool) → HasPast (holding capacity xs closed)
  past_of capacity xs false = (filled xs, leaves_filled capacity xs)
  past_of capacity xs true =
      (filled xs ++ (Close, First) ∷ [], leaves_step (filled xs) (holding capacity xs false) Close (leaves_filled capacity xs))

  pub each_pipe_has_a_past_lem : (pipe : PipeView T) → HasPast pipe
  each_pipe_has_a_past_lem pipe = past_of pipe.capacity pipe.inside pipe.closed

-- what the laws rest on
pub ruleset laws = (nothing_is_lost_lem, nothing_enters_after_close_lem, each_reply_is_counted_lem, each_pipe_has_a_past_lem)
