-- The status that the program ends with, and why in words.
use Rattle.std.specs.Prelude.{ℕ, List, codes}
use Rattle.council_game.specs.Faults.{text_of as text_of_game}
use Rattle.mwc_gather.specs.Faults.{text_of as text_of_gather}
use Rattle.council_game.specs.declared.fault.GameFault.TheVariants as game
use Rattle.mwc_gather.specs.declared.fault.GatherFault.TheVariants as gather
use Rattle.council_run.specs.declared.fault.Cause.{Cause}
use Rattle.council_run.specs.declared.fault.Cause.TheVariants as cause

abbrev pub status_of : Cause → ℕ
status_of (cause.Game game.Read) = 1
status_of (cause.Game game.Memory) = 5
status_of (cause.Game fault) = 3
status_of (cause.Gather gather.TooMany) = 4
status_of (cause.Gather fault) = 5
status_of cause.Write = 5
status_of cause.Memory = 5
status_of cause.States = 6

-- the number of a cause
abbrev pub number_of : Cause → ℕ
number_of (cause.Game fault) = 1
number_of (cause.Gather fault) = 2
number_of cause.Write = 3
number_of cause.Memory = 4
number_of cause.States = 5

-- what a cause says
abbrev pub text_of : Cause → List ℕ
text_of (cause.Game fault) = text_of_game fault
text_of (cause.Gather fault) = text_of_gather fault
text_of cause.Write = codes "output failed"
text_of cause.Memory = codes "out of memory"
text_of cause.States = codes "too many states for the swings"
