-- The texts of the faults of a gathering.
use Rattle.std.specs.Prelude.{ℕ, List, codes}
use Rattle.mwc_gather.specs.declared.fault.GatherFault.{GatherFault}
use Rattle.mwc_gather.specs.declared.fault.GatherFault.TheVariants.{TooMany, Start, Memory, Ring}

abbrev pub text_of : GatherFault → List ℕ
text_of TooMany = codes "too many minimal winning coalitions"
text_of Start = codes "a worker could not be started"
text_of Memory = codes "out of memory"
text_of Ring = codes "a ring could not be finished"
