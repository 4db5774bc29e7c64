-- The calls of a pipe, and their replies.
use Rattle.std.specs.Prelude.{◌≡◌, Bool, true, false, [], ◌∷◌, Option, Some, None, Result, Ok, Err, if◌then◌else◌}
use Rattle.mwc_pipe.specs.declared.step.Refused.TheVariants as refused
use Rattle.mwc_pipe.specs.declared.step.Taken.TheVariants as taken
use Rattle.mwc_pipe.specs.declared.step.{Refused.Refused, Taken.Taken, Reply.Reply}
use Rattle.mwc_pipe.specs.declared.step.Reply.TheVariants as reply
use Rattle.mwc_pipe.specs.PipeView.{PipeView}

module _ {T : Type 0} where
  -- the reply to a put; out of memory is none
  abbrev pub reply_of_put : Result Unit (Refused T) → Option (Reply T)
  reply_of_put (Ok _) = Some reply.Accepted
  reply_of_put (Err (refused.Closed x)) = Some reply.Closed
  reply_of_put (Err (refused.Full x)) = Some reply.Full
  reply_of_put (Err (refused.Memory x)) = None

  -- the reply to a take
  abbrev pub reply_of_taken : Taken T → Reply T
  reply_of_taken (taken.Item x) = reply.Item x
  reply_of_taken taken.Empty = reply.Empty
  reply_of_taken taken.Ended = reply.Ended

  -- the reply to a close
  abbrev pub reply_of_close : Bool → Reply T
  reply_of_close first = if first then reply.First else reply.Again

  -- the oldest item goes out; else nothing was inside, and nothing changes
  abbrev pub TakesOut : PipeView T → Taken T → PipeView T → Type 0
  TakesOut old (taken.Item x) new = old ≡ record new { inside = x ∷ new.inside }
  TakesOut old taken.Empty new = (old.inside ≡ []) × (old.closed ≡ false) × (new ≡ old)
  TakesOut old taken.Ended new = (old.inside ≡ []) × (old.closed ≡ true) × (new ≡ old)
