-- What holds of every list of steps.
use Rattle.std.specs.Prelude.{◌≡◌, ℕ, ◌<◌, ◌≤◌, List, length, take, Some, slice_get}
use Rattle.mwc_pipe.specs.declared.step.Step.{Step}
use Rattle.mwc_pipe.specs.declared.step.Step.TheVariants.{Put, Close}
use Rattle.mwc_pipe.specs.declared.step.Reply.{Reply}
use Rattle.mwc_pipe.specs.declared.step.Reply.TheVariants.{Closed}
use Rattle.mwc_pipe.specs.History.{Event, history, items_in, items_out, replies, reply_to, IsLawful}
use Rattle.mwc_pipe.specs.PipeView.{PipeView, Leaves}

module _ {T : Type 0} where
  -- what was taken is the beginning of what was accepted, and the rest has at most `capacity` items
  abbrev pub NothingIsLost : ℕ → List (Step T) → Type 0
  NothingIsLost capacity steps =
      (rest : List T) × IsLawful (items_in (history capacity steps)) (items_out (history capacity steps)) rest × (length rest ≤ capacity)

  -- by these replies to these steps, each put after a close is answered Closed
  abbrev pub NothingEntersAfterClose : List (Step T) → List (Reply T) → Type 0
  NothingEntersAfterClose steps replies =
      (i k : ℕ) (x : T) → i < k → slice_get steps i ≡ Some Close → slice_get steps k ≡ Some (Put x) →
      slice_get replies k ≡ Some Closed

  -- the reply to the step at place k is the reply after the history of the first k steps
  abbrev pub EachReplyIsCounted : ℕ → List (Step T) → Type 0
  EachReplyIsCounted capacity steps =
      (k : ℕ) (step : Step T) → slice_get steps k ≡ Some step →
      slice_get (replies capacity steps) k ≡ Some (reply_to capacity (history capacity (take k steps)) step)

  -- some history leaves the pipe so
  abbrev pub HasPast : PipeView T → Type 0
  HasPast pipe = (past : List (Event T)) × Leaves past pipe
