-- The calls of a pipe as its steps, one by one.
use Rattle.std.proofs.Common.{◌≡◌, ◌<◌, ◌==◌, Bool, true, false, [], ◌∷◌, ◌++◌, length, refl, arith, not}
use Rattle.std.proofs.{Math.Bool.or-false, Math.Bool.or-true, lemmas.Bool.Decides.nat_tests, lemmas.Grind.common_steps}
use Rattle.std.proofs.lemmas.Bool.{cases_Bool}
use Rattle.mwc_pipe.specs.declared.{step.Reply.Reply, step.Step.TheVariants.Put, step.Step.TheVariants.Take, step.Step.TheVariants.Close}
use Rattle.mwc_pipe.specs.{PipeView.PipeView, PipeView.IsStep, declared.step.Step.Step}
use Rattle.mwc_pipe.specs.{Calls.reply_of_taken, Calls.reply_of_close, Calls.TakesOut, declared.step.Taken.Taken}
use Rattle.mwc_pipe.specs.declared.step.Reply.TheVariants.{Accepted, Full, Closed, Item, Empty, Ended}
use Rattle.mwc_pipe.proofs.Counting.{reply_in, stepped, reply_is, leaves_step}
use Rattle.mwc_pipe.specs.declared.step.Taken.TheVariants as taken

module _ {T : Type 0} where
  -- an answer and a new state that the items inside give are a step
  pub is_step : (old new : PipeView T) (step : Step T) (reply : Reply T) →
      reply ≡ reply_in old step → new ≡ stepped old step → IsStep old step reply new
  is_step old new step reply er en = grind (arith, common_steps, leaves_step, reply_is)

  -- the steps one by one

  pub closed_step : (pipe : PipeView T) (x : T) → pipe.closed ≡ true → IsStep pipe (Put x) Closed pipe
  closed_step pipe x ec = is_step pipe pipe (Put x) Closed (rw ec refl) (grind (arith, common_steps, or-false))

  pub full_step : (pipe : PipeView T) (x : T) → pipe.closed ≡ false → length pipe.inside ≡ pipe.capacity → IsStep pipe (Put x) Full pipe
  full_step pipe x ec ef =
      let full : (length pipe.inside == pipe.capacity) ≡ true = grind (arith, nat_tests) in
      is_step pipe pipe (Put x) Full (rw (ec, full) refl) (grind (arith, common_steps, or-false))

  pub accepted_step : (pipe new : PipeView T) (x : T) → pipe.closed ≡ false → length pipe.inside < pipe.capacity →
      new ≡ record pipe { inside = pipe.inside ++ x ∷ [] } → IsStep pipe (Put x) Accepted new
  accepted_step pipe new x ec less en =
      let full : (length pipe.inside == pipe.capacity) ≡ false = grind (arith, nat_tests) in
      is_step pipe new (Put x) Accepted (rw (ec, full) refl) (grind (arith, common_steps, or-false))

  pub take_step : (old new : PipeView T) (outcome : Taken T) → TakesOut old outcome new → IsStep old Take (reply_of_taken outcome) new
  take_step old new (taken.Item x) e = is_step old new Take (Item x) (rw e refl) (grind (arith, common_steps, or-false))
  take_step old new taken.Empty e = is_step old new Take Empty (rw (e.0, e.1) refl) (grind (arith, common_steps, or-false))
  take_step old new taken.Ended e = is_step old new Take Ended (rw (e.0, e.1) refl) (grind (arith, common_steps, or-false))

  pub close_step : (old new : PipeView T) (first : Bool) → first ≡ not old.closed → new ≡ record old { closed = true } →
      IsStep old Close (reply_of_close first) new
  close_step old new first ef en =
      is_step old new Close (reply_of_close first) (grind (arith, common_steps, cases_Bool)) (grind (arith, common_steps, or-true))

-- what the calls of a pipe rest on
pub ruleset stepping = (nat_tests, accepted_step, close_step)
