-- What the workers are to do, and what comes of it.
use Rattle.std.specs.Prelude.{◌≡◌, ℕ, ◌<◌, List, [], Some, Result, Err, IfOk, All, length, slice_get, slice_index_or}
use Rattle.std.specs.List.{range_with_len}
use Rattle.council_game.specs.Game.{votes_of}
use Rattle.council_game.specs.Votes.{minimal_coalitions}
use Rattle.mwc_gather.specs.Slicing.{Slicing, slicing}
use Rattle.mwc_gather.specs.Wording.{coalition_count}
use Rattle.mwc_gather.specs.Parts.{part_slices}
use Rattle.mwc_gather.specs.Gathering.{Gathers}
use Rattle.mwc_gather.specs.Inner.Holders.{AreAssigned}
use Rattle.mwc_gather.specs.Inner.Settled.{IsPart}
use Rattle.mwc_gather.specs.declared.fault.GatherFault.{GatherFault, TheVariants.TooMany}
use Rattle.mwc_gather.specs.declared.gathered.Gathered.{Gathered}
use Rattle.mwc_gather.specs.declared.job.Job.{Job}
use Rattle.mwc_gather.specs.declared.part.Part.{Part}

-- how many coalitions all slices have
abbrev pub all_total : Slicing → ℕ
all_total g = coalition_count g (range_with_len 0 g.slices)

-- the parts of all workers: all slices are given to them, each has the coalitions of its slices,
-- and worker w begins with slice w
pub record IsComplete (g : Slicing) (workers : ℕ) (parts : List Part) : Type 0 where
  pub a_part_each : length parts ≡ workers
  pub assigned : AreAssigned g.slices (part_slices parts)
  pub are_parts : All (IsPart g) parts
  pub begins : (w : ℕ) → w < workers → w < g.slices → slice_get (slice_index_or (part_slices parts) w []) 0 ≡ Some w

module _ {G : Type 0} where
  -- the slices that the workers list
  abbrev pub slices_of : Job G → Slicing
  slices_of job = slicing job.guarded job.bits

  -- all is gathered; or there is a fault, which is TooMany only if there is more than was asked
  -- for
  abbrev pub Answers : Job G → ℕ → Result Gathered GatherFault → Type 0
  Answers job workers r = IfOk r (Gathers (votes_of job.guarded) job.bits workers job.most)
      × (r ≡ Err TooMany → job.most < length (minimal_coalitions (votes_of job.guarded)))
