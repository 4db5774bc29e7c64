-- Which fault is answered.
use Rattle.std.specs.Prelude.{◌≡◌, ◌⊎◌, List, [], ◌∷◌, Option, Some, None, Result, Ok, Err}
use Rattle.mwc_gather.specs.declared.fault.GatherFault.{GatherFault}
use Rattle.mwc_gather.specs.declared.fault.GatherFault.TheVariants.{TooMany, Start, Memory, Ring}

-- of a fault that was met and another: Start before Memory, Memory before Ring, Ring before TooMany
abbrev pub first : GatherFault → GatherFault → GatherFault
first Start why = Start
first Memory Start = Start
first Memory why = Memory
first Ring TooMany = Ring
first Ring why = why
first TooMany why = why

-- of those met, if any, and another
abbrev pub first_of : Option GatherFault → GatherFault → GatherFault
first_of None why = why
first_of (Some met) why = first met why

-- the first of what was met, and of what came after it, of which some is no fault
abbrev pub first_of_all : Option GatherFault → List (Option GatherFault) → Option GatherFault
first_of_all met [] = met
first_of_all met (None ∷ whys) = first_of_all met whys
first_of_all met (Some why ∷ whys) = first_of_all (Some (first_of met why)) whys

-- the fault of an answer
abbrev pub fault_in : {A : Type 0} → Result A GatherFault → Option GatherFault
fault_in (Ok x) = None
fault_in (Err why) = Some why

-- a fault that keeps a worker from its start
abbrev pub IsEarly : GatherFault → Type 0
IsEarly why = (why ≡ Start) ⊎ (why ≡ Memory)
