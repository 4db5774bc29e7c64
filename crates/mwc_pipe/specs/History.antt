-- The replies of a pipe, by counting over the history. There is no queue here.
use Rattle.std.specs.Prelude.{◌≡◌, ℕ, ◌-◌, ◌==◌, Bool, true, false, List, [], ◌∷◌, ◌++◌, Option, Some, None, length, slice_get, map}
use Rattle.std.specs.Prelude.{if◌then◌else◌}
use Rattle.std.specs.List.{filter_map, list_any}
use Rattle.mwc_pipe.specs.declared.step.Step.{Step}
use Rattle.mwc_pipe.specs.declared.step.Step.TheVariants.{Put, Take, Close}
use Rattle.mwc_pipe.specs.declared.step.Reply.{Reply}
use Rattle.mwc_pipe.specs.declared.step.Reply.TheVariants.{Accepted, Full, Closed, Item, Empty, Ended, First, Again}

-- a step and the reply to it
abbrev pub Event : Type 0 → Type 0
Event T = Step T × Reply T

module _ {T : Type 0} where
  -- the item of a put that was accepted
  abbrev pub item_in : Event T → Option T
  item_in (Put x, Accepted) = Some x
  item_in _ = None

  -- the item that a take was answered by
  abbrev pub item_out : Event T → Option T
  item_out (Take, Item x) = Some x
  item_out _ = None

  abbrev pub is_close : Step T → Bool
  is_close Close = true
  is_close _ = false

  -- whether there was a close
  abbrev pub has_close : List (Event T) → Bool
  has_close past = list_any (λ event. is_close event.0) past

  -- the accepted items, in step order
  abbrev pub items_in : List (Event T) → List T
  items_in past = filter_map item_in past

  -- the items taken, in step order
  abbrev pub items_out : List (Event T) → List T
  items_out past = filter_map item_out past

  -- the reply to a take: this item, or none is there
  abbrev pub reply_of_take : Option T → Bool → Reply T
  reply_of_take (Some x) closed = Item x
  reply_of_take None closed = if closed then Ended else Empty

  -- the reply to a step after this past
  abbrev pub reply_to : ℕ → List (Event T) → Step T → Reply T
  reply_to capacity past (Put x) =
      if has_close past then Closed else (if length (items_in past) - length (items_out past) == capacity then Full else Accepted)
  reply_to capacity past Take = reply_of_take (slice_get (items_in past) (length (items_out past))) (has_close past)
  reply_to capacity past Close = if has_close past then Again else First

  -- the past, and after it these steps, each with its reply
  abbrev pub history_after : ℕ → List (Event T) → List (Step T) → List (Event T)
  history_after capacity past [] = past
  history_after capacity past (step ∷ steps) = history_after capacity (past ++ (step, reply_to capacity past step) ∷ []) steps

  -- the steps, each with its reply
  abbrev pub history : ℕ → List (Step T) → List (Event T)
  history capacity steps = history_after capacity [] steps

  -- the replies to the steps
  abbrev pub replies : ℕ → List (Step T) → List (Reply T)
  replies capacity steps = map (λ event. event.1) (history capacity steps)

  -- what was taken followed by what is inside is what was accepted
  abbrev pub IsLawful : List T → List T → List T → Type 0
  IsLawful items_in items_out inside = items_out ++ inside ≡ items_in
