-- What contracts see of a pipe, and how a history leads to it.
use Rattle.std.specs.Prelude.{◌≡◌, ℕ, Bool, List, [], ◌∷◌, ◌++◌}
use Rattle.mwc_pipe.specs.declared.step.{Step.Step, Reply.Reply}
use Rattle.mwc_pipe.specs.History.{Event, items_in, items_out, has_close, reply_to, IsLawful}

-- the capacity, the items inside, oldest first, and whether it was closed
pub record PipeView (T : Type 0) : Type 0 where
  pub capacity : ℕ
  pub inside : List T
  pub closed : Bool

module _ {T : Type 0} where
  -- after this past the pipe holds these items, and is closed or not
  pub record Leaves (past : List (Event T)) (pipe : PipeView T) : Type 0 where
    pub lawful : IsLawful (items_in past) (items_out past) pipe.inside
    pub closed : pipe.closed ≡ has_close past

  -- whatever past left the pipe so: the reply is the one after that past, and the past with this
  -- step leaves the pipe as the call does
  pub record IsStep (old : PipeView T) (step : Step T) (reply : Reply T) (new : PipeView T) : Type 0 where
    pub answers : (past : List (Event T)) → Leaves past old → reply ≡ reply_to old.capacity past step
    pub leads : (past : List (Event T)) → Leaves past old → Leaves (past ++ (step, reply) ∷ []) new
    pub same : new.capacity ≡ old.capacity
