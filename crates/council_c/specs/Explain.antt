-- What the words of a status are.
use Rattle.std.specs.Prelude.{◌≡◌, ◌≤◌, ◌⊎◌, ℕ, List}
use Rattle.council_game.specs.declared.limits.TheConstants.{MEMBERS}
use Rattle.council_game.specs.Faults.{number_of}
use Rattle.council_game.specs.declared.fault.GameFault.{GameFault}
use Rattle.council_run.specs.declared.fault.Cause.TheVariants as cause
use Rattle.mwc_gather.specs.declared.fault.GatherFault.TheVariants as gather
use Rattle.council_c.specs.Answer.{Tells}
use Rattle.council_c.specs.Arrays.{member_of_fault}
use Rattle.council_c.specs.declared.fault.Fault.{Fault}
use Rattle.council_c.specs.declared.fault.Fault.TheVariants as fault
use Rattle.council_c.specs.declared.results.CouncilSummary.{CouncilSummary}

-- a fault of a game with this number, of this member, from 1; or of none, 0
abbrev pub HasNumbers : ℕ → ℕ → GameFault → Type 0
HasNumbers number member why = (number ≡ number_of why) × (member ≡ member_of_fault why) × (member ≤ MEMBERS)

-- a call that gave this status and this summary was stopped by this fault
abbrev pub IsStoppedBy : ℕ → CouncilSummary → Fault → Type 0
IsStoppedBy status s fault.Options = status ≡ 2
IsStoppedBy status s (fault.Run (cause.Game why)) = (status ≡ 3) × HasNumbers s.fault s.member why
IsStoppedBy status s (fault.Run (cause.Gather gather.TooMany)) = status ≡ 4
IsStoppedBy status s (fault.Run cause.Memory) = status ≡ 5
IsStoppedBy status s (fault.Run cause.States) = status ≡ 6
IsStoppedBy status s fault.TooLong = status ≡ 7
IsStoppedBy status s fault.Size = status ≡ 8
IsStoppedBy status s why = ⊥

-- the buffer shows what stopped the call, or nothing did and it is unchanged
abbrev pub Explains : ℕ → CouncilSummary → List ℕ → List ℕ → ℕ → Type 0
Explains status s before after len =
    ((why : Fault) × IsStoppedBy status s why × Tells why before after len)
    ⊎ (((why : Fault) → IsStoppedBy status s why → ⊥) × (len ≡ 0) × (after ≡ before))
