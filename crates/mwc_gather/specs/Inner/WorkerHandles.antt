-- What the workers of some handles were given.
use Rattle.std.specs.Prelude.{◌≡◌, ◌≢◌, ℕ, ◌<◌, ◌≤◌, ◌^◌, Bool, true, List, Option, Some, None, All, length, map, replicate}
use Rattle.std.specs.List.{AllWithin}
use Rattle.mwc_gather.specs.Slicing.{Slicing}
use Rattle.mwc_gather.specs.Inner.Settled.{IsPart}
use Rattle.mwc_gather.specs.Wording.{coalition_count}
use Rattle.mwc_gather.specs.Inner.Fault.{IsEarly}
use Rattle.mwc_gather.specs.declared.part.Part.{Part}
use Rattle.mwc_gather.specs.declared.fault.GatherFault.{GatherFault}
use Rattle.mwc_gather.specs.declared.fault.GatherFault.TheVariants.{TooMany, Start, Memory}
use Rattle.mwc_gather.specs.Inner.Scheduling.{WorkerView, HasNotFailed, IsFresh, AssignsInTurn, AssignsOneEach}
use Rattle.mwc_gather.specs.Slicing.{slicing}
use Rattle.mwc_gather.specs.declared.worker_handle.WorkerHandle.{WorkerHandle}
use Rattle.mwc_gather.specs.declared.scheduler.Scheduler.{Scheduler}
use Rattle.mwc_gather.specs.declared.job.Job.{Job}
use Rattle.mwc_gather.specs.Inner.Gathering.{slices_of}
use Rattle.council_game.specs.declared.limits.TheConstants.{WORKERS}

-- the slices of the game that the worker was given
abbrev pub handle_slicing : WorkerHandle → Slicing
handle_slicing d = slicing d.worker.promise.game.value d.worker.promise.bits

-- the worker was given this game and this limit
abbrev pub IsOf : Slicing → ℕ → WorkerHandle → Type 0
IsOf g most d = (handle_slicing d ≡ g) × (d.worker.promise.most ≡ most)

-- the same worker, of which the same words were taken
abbrev pub IsSameWorker : WorkerHandle → WorkerHandle → Type 0
IsSameWorker old new = (new.worker.promise ≡ old.worker.promise) × (new.words.taken ≡ old.words.taken)

abbrev pub AllOf : Slicing → ℕ → List WorkerHandle → Type 0
AllOf g most handles = All (IsOf g most) handles

abbrev pub view_of : WorkerHandle → WorkerView
view_of d = record { given = d.given.items; idle = d.idle; dismissed = d.dismissed; out_of_memory = d.builder.out_of_memory; cut = d.builder.cut }

abbrev pub views_of : List WorkerHandle → List WorkerView
views_of handles = map view_of handles

-- what a worker has sent whose answer is a part
pub record IsPartOfWorker (g : Slicing) (d : WorkerHandle) (p : Part) : Type 0 where
  pub slices : p.slices.items ≡ d.given.items
  pub part : IsPart g p
  pub well : HasNotFailed (view_of d)
  pub dismissed : d.dismissed ≡ true

-- how the end of a worker may be answered, of which None is a part: the worker was dismissed and
-- nothing failed; or a fault other than Start. If a growth was refused it is Memory, and it is
-- TooMany only if the slices given have more coalitions than were asked for
abbrev pub CanEndWith : Slicing → ℕ → WorkerHandle → Option GatherFault → Type 0
CanEndWith g most d None = HasNotFailed (view_of d) × (d.dismissed ≡ true)
CanEndWith g most d (Some why) = (why ≢ Start) × (d.builder.out_of_memory ≡ true → why ≡ Memory)
    × (why ≡ TooMany → most < coalition_count g d.given.items)

-- if `workers` workers were to be started, `started` were: all, or fewer, with a fault that kept
-- the next from its start
abbrev pub HasStarted : ℕ → ℕ → Option GatherFault → Type 0
HasStarted workers started None = started ≡ workers
HasStarted workers started (Some why) = (started < workers) × IsEarly why

-- the slices of the game are assigned to the workers; none is if a start failed early
pub record AssignsTo (g : Slicing) (most : ℕ) (early : Bool) (scheduler : Scheduler) (handles : List WorkerHandle) : Type 0 where
  pub all_of : AllOf g most handles
  pub scheduling : AssignsInTurn g.slices (length handles) early scheduler.marks scheduler.stopped (views_of handles)

-- the first k workers had their turn
pub record AssignsFirst (g : Slicing) (most : ℕ) (early : Bool) (scheduler : Scheduler) (k : ℕ) (handles : List WorkerHandle) : Type 0 where
  pub all_of : AllOf g most handles
  pub firsts : AssignsOneEach g.slices k early scheduler.marks scheduler.stopped (views_of handles)
  pub to_come : AllWithin (λ (d : WorkerHandle). IsFresh (view_of d)) handles k (length handles)

-- nothing is assigned yet to the workers, which were given the job
abbrev pub CanAssign : {G : Type 0} → Job G → Scheduler → List WorkerHandle → Type 0
CanAssign job scheduler handles = (length handles ≤ WORKERS) × AllOf (slices_of job) job.most handles × All IsFresh (views_of handles)
    × (scheduler.marks ≡ replicate (2 ^ job.bits) None)
