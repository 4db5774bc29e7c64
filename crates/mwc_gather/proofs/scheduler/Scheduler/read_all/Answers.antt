use Rattle.mwc_gather.proofs.Imports.{◌≡◌, true, All, subst, ◌<◌, length, arith, slices_of, take_all}
use Rattle.std.proofs.lemmas.List.Elements.{All-nil}
use Rattle.mwc_gather.proofs.Holders.{turn_of, ended_more}
use Rattle.mwc_gather.proofs.scheduler.Scheduler.read_all.Goals as goal

pub assign_first-requires : goal.assign_first-requires
assign_first-requires g c = c.requires

pub loop-i-init : goal.loop-i-init
loop-i-init g c = (c.loop.invariant, λ _. All-nil (λ d. d.ended ≡ true))

pub loop-i-preserved : goal.loop-i-preserved
loop-i-preserved g c =
    let q = c.loop-i.auto.handles in
    let l : c.loop-i.i < length c.loop-i.handles = omega arith in (
      turn_of {g = slices_of c.args.job.now} c.loop-i.handles c.loop-i.i c.index-handles-i.result
          c.serve-moved.new.handle l c.loop-i.invariant.0 c.serve-moved.ensures.worker c.serve-moved.ensures.turns.2,
      ended_more c.loop-i.handles c.loop-i.i c.serve-moved.new.handle c.loop-i.running l c.loop-i.invariant.1,
    )

pub returns-then-not-running : goal.returns-then-not-running
returns-then-not-running g c = record {
  assigns = c.loop-i.invariant.0;
  ended = subst (All (λ d. d.ended ≡ true)) (take_all c.loop-i.i c.loop-i.handles (omega arith)) (c.loop-i.invariant.1 c.if-not-running.true);
}

pub loop-preserved-then-moved : goal.loop-preserved-then-moved
loop-preserved-then-moved g c = c.loop-i.invariant.0

pub loop-preserved : goal.loop-preserved
loop-preserved g c = c.loop-i.invariant.0
