use Rattle.std.proofs.lemmas.Bool.Decides.{nat_tests}
use Rattle.std.proofs.Common.{arith}
use Rattle.mwc_gather.proofs.Holders.{turn_after}
use Rattle.mwc_gather.proofs.Imports.{take, view_of, list_any, is_done}
use Rattle.mwc_gather.proofs.scheduler.Scheduler.serve.Goals as goal

pub assign_next-requires : goal.assign_next-requires
assign_next-requires g c = record { slices = rw c.read-count.ensures.worker c.requires.slices; worker = c.requires.worker }

pub returns : goal.returns
returns g c = grind (arith, nat_tests, take, turn_after, list_any, is_done, view_of)
