-- What a call for the coalitions of arrays answers.
use Rattle.std.specs.Prelude.{◌≡◌, ◌^◌, ℕ, true, false, List, ◌++◌, length, map, drop, min, sum_by, Ok, Some, ◌⊎◌, ⊤, if◌then◌else◌}
use Rattle.council_game.specs.declared.limits.TheConstants.{COALITIONS}
use Rattle.council_game.specs.Game.{GameView}
use Rattle.council_game.specs.Members.{contains, members}
use Rattle.council_run.specs.Run.{IsWithin}
use Rattle.council_run.specs.declared.fault.Cause.TheVariants as cause
use Rattle.mwc_gather.specs.declared.fault.GatherFault.TheVariants as gather
use Rattle.council_c.specs.Answer.{status_of_call}
use Rattle.council_c.specs.Asked.{visits_of}
use Rattle.council_c.specs.Bounded.{IsTooLong}
use Rattle.council_c.specs.Indices.{HoldArrays, IsRight, Request, StopsArrays, with_fault}
use Rattle.council_c.specs.Numbers.{minimal_of}
use Rattle.council_c.specs.declared.fault.Fault.{Fault}
use Rattle.council_c.specs.declared.fault.Fault.TheVariants as fault
use Rattle.council_c.specs.declared.results.CouncilSummary.{CouncilSummary}

-- what member i adds to the mask of a coalition: binary digit i, if the member is in
abbrev pub digit_of : GameView → ℕ → ℕ → ℕ
digit_of g c i = if contains g i c then 2 ^ i else 0

-- a coalition as a mask
abbrev pub mask_of : GameView → ℕ → ℕ
mask_of g c = sum_by (digit_of g c) (members g)

-- the minimal winning coalitions as masks, in listing order
abbrev pub masks_of : GameView → List ℕ
masks_of g = map (mask_of g) (minimal_of g)

-- the fewest of what there is room for and what is listed at most
abbrev pub most_masks : ℕ → ℕ
most_masks room = min room COALITIONS

-- why the coalitions of a game are not listed
abbrev pub StopsList : ℕ → ℕ → GameView → Fault → Type 0
StopsList room visits g (fault.Run cause.Memory) = ⊤
StopsList room visits g (fault.Run (cause.Gather gather.TooMany)) = IsWithin (Some (most_masks room)) g → ⊥
StopsList room visits g fault.TooLong = IsTooLong visits g
StopsList room visits g why = ⊥

-- The buffer begins with the masks, and the summary has their number; the rest is unchanged.
abbrev pub AreMasks : GameView → List ℕ → List ℕ → CouncilSummary → CouncilSummary → Type 0
AreMasks g before after old new =
    (after ≡ masks_of g ++ drop (length (minimal_of g)) before)
    × (new ≡ record old { fault = 0; member = 0; rule = 0; coalitions = length (minimal_of g) })

-- Status 0 comes with the masks, and any other with the fault; then the buffer is unchanged.
abbrev pub AnswersMasks : Request → List ℕ → List ℕ → CouncilSummary → CouncilSummary → ℕ → Type 0
AnswersMasks r before after old new status =
    ((status ≡ 0) × IsRight r old × ((g : GameView) × HoldArrays r (Ok g) × AreMasks g before after old new))
    ⊎ ((why : Fault) × (rule : ℕ) × StopsArrays (StopsList (length before) (visits_of r.words)) r old why rule
    × (status ≡ status_of_call why) × (after ≡ before) × (new ≡ with_fault why rule old))
