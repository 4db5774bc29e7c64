-- The counts of a history and the items inside, and what calls that move rows of items stand for.
use Rattle.std.proofs.Common.{◌≡◌, ℕ, ◌-◌, ◌==◌, Bool, true, false, ◌||◌, List, [], ◌∷◌, ◌++◌, length, slice_get, if◌then◌else◌, refl, ap}
use Rattle.std.proofs.Common.{sym, arith, drop, append_assoc, length-append, append-nil, ◌<◌, ◌+◌, ◌≤◌, suc, zero, ◌∙◌, nat_lt}
use Rattle.std.proofs.lemmas.{Grind.common_steps, List.nil_from_length, List.Elements.filter_map-append, List.Folds.list_any-append}
use Rattle.std.proofs.Math.{Bool.or-false, Seq.take-append_seam}
use Rattle.std.proofs.{Common.length-take, Common.min, Common.take, lemmas.List.take-append-drop}
use Rattle.mwc_pipe.specs.declared.{step.Reply.Reply, step.Step.TheVariants.Put, step.Step.TheVariants.Take, step.Step.TheVariants.Close}
use Rattle.mwc_pipe.specs.{PipeView.PipeView, PipeView.Leaves, declared.step.Step.Step}
use Rattle.mwc_pipe.specs.declared.step.Reply.TheVariants.{Accepted, Full, Closed, First, Again, Item, Empty}
use Rattle.mwc_pipe.specs.History.{Event, is_close, items_in, items_out, reply_of_take, reply_to, has_close}
use Rattle.mwc_pipe.specs.RowSteps.{puts_of, takes_of, AreAnswered, IsSeenByIn, IsSeenByOut}

pub get_after : {X : Type 0} (xs ys : List X) → slice_get (xs ++ ys) (length xs) ≡ slice_get ys 0
get_after [] ys = refl
get_after (x ∷ xs) ys = get_after xs ys

module _ {T : Type 0} where
  -- what a Put finds inside by counting
  pub inside_count : (past : List (Event T)) (pipe : PipeView T) → Leaves past pipe
      → length (items_in past) - length (items_out past) ≡ length pipe.inside
  inside_count past pipe leaves = omega (arith, length-append (items_out past) pipe.inside, ap length leaves.lawful)

  -- what a Take finds by its number among the accepted items
  pub oldest : (past : List (Event T)) (pipe : PipeView T) → Leaves past pipe →
      slice_get (items_in past) (length (items_out past)) ≡ slice_get pipe.inside 0
  oldest past pipe leaves = rw (← leaves.lawful) (get_after (items_out past) pipe.inside)

  -- the reply, seen from what is inside
  abbrev pub reply_in : PipeView T → Step T → Reply T
  reply_in pipe (Put x) = if pipe.closed then Closed else (if length pipe.inside == pipe.capacity then Full else Accepted)
  reply_in pipe Take = reply_of_take (slice_get pipe.inside 0) pipe.closed
  reply_in pipe Close = if pipe.closed then Again else First

  -- what is inside after the step: a put that is accepted comes last, and the oldest is taken out
  abbrev pub inside_after : PipeView T → Step T → List T
  inside_after pipe (Put x) = pipe.inside ++ items_in ((Put x, reply_in pipe (Put x)) ∷ [])
  inside_after pipe Take = drop 1 pipe.inside
  inside_after pipe Close = pipe.inside

  abbrev pub stepped : PipeView T → Step T → PipeView T
  stepped pipe step = record { capacity = pipe.capacity; inside = inside_after pipe step; closed = pipe.closed || is_close step }

  -- counting gives the reply that the items inside give
  pub reply_is : (past : List (Event T)) (pipe : PipeView T) (step : Step T) → Leaves past pipe →
      reply_to pipe.capacity past step ≡ reply_in pipe step
  reply_is past pipe (Put x) leaves = rw (← leaves.closed, inside_count past pipe leaves) refl
  reply_is past pipe Take leaves = rw (← leaves.closed, oldest past pipe leaves) refl
  reply_is past pipe Close leaves = rw (← leaves.closed) refl

  oldest_out : (xs : List T) (closed : Bool) → items_out ((Take, reply_of_take (slice_get xs 0) closed) ∷ []) ++ drop 1 xs ≡ xs ++ []
  oldest_out [] true = refl
  oldest_out [] false = refl
  oldest_out (x ∷ xs) closed = sym (append-nil (x ∷ xs))

  -- a step moves the items inside by what it takes in and gives out
  moved : (pipe : PipeView T) (step : Step T) →
      items_out ((step, reply_in pipe step) ∷ []) ++ inside_after pipe step ≡ pipe.inside ++ items_in ((step, reply_in pipe step) ∷ [])
  moved pipe (Put x) = refl
  moved pipe Take = oldest_out pipe.inside pipe.closed
  moved pipe Close = sym (append-nil pipe.inside)

  -- the step leads from what a pipe holds to what it holds then
  pub leaves_step : (past : List (Event T)) (pipe : PipeView T) (step : Step T) → Leaves past pipe →
      Leaves (past ++ (step, reply_in pipe step) ∷ []) (stepped pipe step)
  leaves_step past pipe step leaves =
      let move = moved pipe step in
      grind (arith, append_assoc, filter_map-append, list_any-append, or-false)

  abbrev pub holding : ℕ → List T → Bool → PipeView T
  holding capacity inside closed = record { capacity = capacity; inside = inside; closed = closed }

  answered_more : (capacity : ℕ) (past : List (Event T)) (step : Step T) (reply : Reply T) (events : List (Event T)) →
      reply_to capacity past step ≡ reply → AreAnswered capacity (past ++ (step, reply) ∷ []) events →
      AreAnswered capacity past ((step, reply) ∷ events)
  answered_more capacity past step reply events e more = grind (arith, common_steps)

  -- the reply to a put while there is room, and if there is none
  put_accepted : (capacity : ℕ) (past : List (Event T)) (x : T) → has_close past ≡ false →
      length (items_out past) ≤ length (items_in past) → length (items_in past) < length (items_out past) + capacity →
      reply_to capacity past (Put x) ≡ Accepted
  put_accepted capacity past x unclosed few room = grind arith

  put_full : (capacity : ℕ) (past : List (Event T)) (x : T) → has_close past ≡ false →
      length (items_in past) ≡ length (items_out past) + capacity → reply_to capacity past (Put x) ≡ Full
  put_full capacity past x unclosed e = grind arith

  -- a put that is accepted, as the past has it
  put_counts : (past : List (Event T)) (x : T) → (length (items_in (past ++ (Put x, Accepted) ∷ [])) ≡ length (items_in past) + 1)
      × (items_out (past ++ (Put x, Accepted) ∷ []) ≡ items_out past) × (has_close (past ++ (Put x, Accepted) ∷ []) ≡ has_close past)
  put_counts past x = grind (arith, common_steps, filter_map-append, list_any-append, or-false)

  puts_on : (capacity : ℕ) (past : List (Event T)) (row : List T) (n : ℕ) → has_close past ≡ false → n ≤ length row →
      length (items_out past) ≤ length (items_in past) → length (items_in past) + n ≤ length (items_out past) + capacity →
      (n < length row → length (items_in past) + n ≡ length (items_out past) + capacity) → AreAnswered capacity past (puts_of row n)
  puts_on capacity past [] zero unclosed l few room full = sym (append-nil past)
  puts_on capacity past [] (suc n) unclosed l few room full = absurd (omega arith)
  puts_on capacity past (x ∷ row) zero unclosed l few room full =
      let last = put_full capacity past x unclosed (omega (arith, full (omega arith))) in
      answered_more capacity past (Put x) Full [] last (sym (append-nil (past ++ (Put x, Full) ∷ [])))
  puts_on capacity past (x ∷ row) (suc n) unclosed l few room full =
      let (more, same, shut) = put_counts past x in
      let reply = put_accepted capacity past x unclosed few (omega arith) in
      let out = ap length same in
      answered_more capacity past (Put x) Accepted (puts_of row n) reply (puts_on capacity (past ++ (Put x, Accepted) ∷ []) row n
      (shut ∙ unclosed) (omega arith) (omega arith) (omega arith) (λ z. omega (arith, full (omega arith))))

  -- a row that is put in is answered as a pipe answers it
  pub puts_answered : (capacity gone : ℕ) (accepted : List T) (past : List (Event T)) (row : List T) (n : ℕ) →
      IsSeenByIn accepted gone past → n ≤ length row →
      length accepted + n ≤ gone + capacity → (n < length row → length accepted + n ≡ gone + capacity) →
      AreAnswered capacity past (puts_of row n)
  puts_answered capacity gone accepted past row n seen l room full = grind (arith, common_steps, puts_on)

  -- what was put of the front of a row is the front of the row
  pub row_front : (most : ℕ) (row put rest : List T) → put ++ rest ≡ take most row
      → (take (length put) row ≡ put) × (length put + length rest ≡ min most (length row))
  row_front most row put rest is =
      let whole : row ≡ put ++ (rest ++ drop most row) = sym (take-append-drop most row) ∙ ap (λ (l : List T). l ++ drop most row) (sym is) ∙ append_assoc put rest (drop most row) in (
        ap (take (length put)) whole ∙ take-append_seam put (rest ++ drop most row),
        sym (length-append put rest) ∙ ap length is ∙ length-take most row,
      )

  takes_on : (capacity : ℕ) (past : List (Event T)) (items known : List T) (short : Bool) →
      Leaves past (holding capacity (items ++ known) false) → (short ≡ true → known ≡ []) → AreAnswered capacity past (takes_of items short)
  takes_on capacity past [] known false leaves none = sym (append-nil past)
  takes_on capacity past [] known true leaves none =
      answered_more capacity past Take Empty [] (rw (none refl) at (reply_is past (holding capacity known false) Take leaves))
      (sym (append-nil (past ++ (Take, Empty) ∷ [])))
  takes_on capacity past (x ∷ items) known short leaves none =
      let pipe : PipeView T = holding capacity (x ∷ (items ++ known)) false in
      answered_more capacity past Take (Item x) (takes_of items short) (reply_is past pipe Take leaves)
      (takes_on capacity (past ++ (Take, Item x) ∷ []) items known short (leaves_step past pipe Take leaves) none)

  -- a row that is taken is answered as a pipe answers it
  pub takes_answered : (capacity : ℕ) (taken items known : List T) (past : List (Event T)) (short : Bool) →
      IsSeenByOut ((taken ++ items) ++ known) taken past →
      (short ≡ true → known ≡ []) → AreAnswered capacity past (takes_of items short)
  takes_answered capacity taken items known past short seen none = grind (arith, append_assoc, takes_on)

-- what a call that takes words rests on
pub ruleset takes = (common_steps, nat_lt, nil_from_length, takes_answered)
