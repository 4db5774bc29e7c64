use Rattle.std.proofs.Common.{◌≡◌, ◌<◌, ◌^◌, ◌++◌, List, ℕ, length, subst, sym, ◌∙◌}
use Rattle.council_game.specs.{Game.votes_of, Votes.minimal_coalitions}
use Rattle.mwc_walk.specs.WalkView.{given}
use Rattle.power_index.specs.Tables.{AreTallies}
use Rattle.power_index.proofs.Shared.{Minimal.minimal-few, Sound.tallies-are_counts}
use Rattle.council_c.proofs.Visits.{over-all, ended, next-is, next-room}
use Rattle.council_c.proofs.bounded.count_walked.Goals as goal

pub loop-alloc-init : goal.loop-alloc-init
loop-alloc-init c = record {
  votes = c.requires.votes;
  bits = c.requires.whole.0;
  number = c.requires.whole.1;
  tallies = subst (λ (l : List ℕ). AreTallies c.args.game.now l c.none-counts.result) (sym c.requires.start) c.none-counts.ensures.tallies;
}

whole : (c : goal.After-counts-1) → given c.seek.new.self ++ c.seek.new.self.to_come ≡ minimal_coalitions (votes_of c.args.game.now)
whole c =
    let before = c.loop-alloc.invariant in
    let same = c.in-Found.ensures.same in
    c.in-Found.ensures.whole ∙ over-all c.args.game.now c.seek.new.self c.one_slice_is_the_whole.ensures c.was_checked.ensures.votes
    (same.0 ∙ before.votes) (same.1 ∙ before.bits) (same.2 ∙ before.number)

next : (c : goal.After-counts-1) → (0 < c.in-Found.coalition) × (c.in-Found.coalition < 2 ^ length c.args.game.now.names)
next c = next-is c.args.game.now (given c.loop-alloc.walk) (given c.seek.new.self) c.seek.new.self.to_come c.in-Found.coalition
    c.was_checked.ensures.game c.in-Found.ensures.seeks.1 (whole c)

pub count-requires-clause-some : goal.count-requires-clause-some
count-requires-clause-some c = (next c).0

pub count-requires-clause-below : goal.count-requires-clause-below
count-requires-clause-below c = subst (λ (n : ℕ). c.in-Found.coalition < 2 ^ n) (sym c.loop-alloc.invariant.tallies.of_game.members) (next c).1

pub count-requires-clause-room : goal.count-requires-clause-room
count-requires-clause-room c =
    next-room c.args.game.now (given c.loop-alloc.walk) (given c.seek.new.self) c.seek.new.self.to_come c.in-Found.coalition
    c.was_checked.ensures.game c.in-Found.ensures.seeks.1 (whole c) c.loop-alloc.counts
    (minimal-few c.args.game.now c.was_checked.ensures.game) c.loop-alloc.invariant.tallies

pub loop-alloc-preserved-in-Found : goal.loop-alloc-preserved-in-Found
loop-alloc-preserved-in-Found c =
    let before = c.loop-alloc.invariant in
    let same = c.in-Found.ensures.same in
    record {
      votes = same.0 ∙ before.votes;
      bits = same.1 ∙ before.bits;
      number = same.2 ∙ before.number;
      tallies = subst (λ (l : List ℕ). AreTallies c.args.game.now l c.count.new.self) (sym c.in-Found.ensures.seeks.1)
          (c.count.ensures.tallies c.args.game.now (given c.loop-alloc.walk) before.tallies);
    }

pub returns-in-End-clause-counts : goal.returns-in-End-clause-counts
returns-in-End-clause-counts c =
    let before = c.loop-alloc.invariant in
    let same = c.in-End.ensures.same in
    let all = c.in-End.ensures.whole ∙ over-all c.args.game.now c.seek.new.self c.one_slice_is_the_whole.ensures c.was_checked.ensures.votes
    (same.0 ∙ before.votes) (same.1 ∙ before.bits) (same.2 ∙ before.number) in
    let is = ended _ (given c.seek.new.self) (given c.loop-alloc.walk) c.seek.new.self.to_come all c.in-End.ensures.seeks.1 c.in-End.ensures.seeks.2 in
    tallies-are_counts c.args.game.now _ c.loop-alloc.counts
    (subst (λ (l : List ℕ). AreTallies c.args.game.now l c.loop-alloc.counts) is before.tallies)
