-- What the sending of one slice, and a worker, answer.
use Rattle.std.specs.Prelude.{◌≡◌, ℕ, ◌+◌, ◌<◌, ◌≤◌, nat_lt, Bool, true, List, ◌++◌, length, ◌⊎◌, Result, Ok, Err, if◌then◌else◌, ⊤}
use mathlib.Core.List.{IsPrefix}
use Rattle.mwc_gather.specs.Slicing.{Slicing}
use Rattle.mwc_gather.specs.Wording.{slice_words, cut_words, IsWholeSending, IsCutSending}
use Rattle.mwc_pipe.specs.RingViews.{RingInView, RingOutView, ClosedView}
use Rattle.mwc_pipe.specs.declared.word.Word.{Word}
use Rattle.mwc_pipe.specs.declared.closed.Unfinished.{Unfinished}
use Rattle.mwc_gather.specs.declared.sent.Sent.{Sent}
use Rattle.mwc_gather.specs.declared.sent.Sent.TheVariants as sent

-- the words of slice j, if it has fewer than `left` coalitions; else those up to coalition
-- number `left`
unfoldable pub sending : Slicing → ℕ → ℕ → List Word
sending g j left = if nat_lt (length (g.slice j)) left then slice_words g j else cut_words g j left

-- what a pipe accepted in the sending of slice j: the whole slice, or the slice up to the cut; or
-- the pipe is broken, and it is a beginning of that sending
abbrev pub Sends : Slicing → ℕ → ℕ → List Word → List Word → Bool → Sent → Type 0
Sends g j left before after broken (sent.Whole rest) =
    (after ≡ before ++ slice_words g j) × (length (g.slice j) < left) × (rest + length (g.slice j) ≡ left)
Sends g j left before after broken sent.Cut = (after ≡ before ++ cut_words g j left) × (left ≤ length (g.slice j))
Sends g j left before after broken sent.Refused =
    (broken ≡ true) × ((words : List Word) × (after ≡ before ++ words) × IsPrefix words (sending g j left))

-- a sending that was not refused leaves the pipe as broken as before, or as whole
abbrev pub BreaksOnlyIfRefused : Bool → Bool → Sent → Type 0
BreaksOnlyIfRefused before after (sent.Whole rest) = after ≡ before
BreaksOnlyIfRefused before after sent.Cut = after ≡ before
BreaksOnlyIfRefused before after sent.Refused = ⊤

-- what the closed end of a worker tells: a whole or a cut sending of the slices that its tasks
-- gave, and both ends are of its rings
abbrev pub HasWorked : Slicing → ℕ → RingInView → RingOutView → Result ClosedView Unfinished × RingOutView → Type 0
HasWorked g most out tasks (Ok c, t) =
    (t.ring ≡ tasks.ring) × (c.ring ≡ out.ring) × (IsWholeSending g most t.taken c.accepted ⊎ IsCutSending g most t.taken c.accepted)
HasWorked g most out tasks (Err e, t) = t.ring ≡ tasks.ring
