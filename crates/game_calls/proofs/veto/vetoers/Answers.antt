use Rattle.std.proofs.lemmas.Bool.Decides.{nat_tests}
use Rattle.std.proofs.Common.{arith}
use Rattle.std.proofs.lemmas.Bool.{both_ways}
use Rattle.game_calls.specs.Winning.{IsVetoer}
use Rattle.game_calls.proofs.Collecting.{collects-none, collects-more, collects-less}
use Rattle.game_calls.proofs.veto.vetoers.Goals.{then-is_vetoer, else-is_vetoer}
use Rattle.game_calls.proofs.veto.vetoers.Goals as goal

pub loop-member-init : goal.loop-member-init
loop-member-init c = collects-none c.args.game.now (IsVetoer c.args.game.now) _ c.none-vetoers.ensures

pub loop-member-preserved : goal.loop-member-preserved
loop-member-preserved c = grind (arith, nat_tests, collects-more, collects-less, both_ways)

pub returns-clause-vetoers : goal.returns-clause-vetoers
returns-clause-vetoers c i lt = c.loop-member.invariant.before i (omega (arith, lt, c.loop-member-test.false, c.members-member-end.ensures.count))

pub returns-clause-in_all : goal.returns-clause-in_all
returns-clause-in_all c i lt =
    let own = c.loop-member.invariant.before i (omega (arith, lt, c.loop-member-test.false, c.members-member-end.ensures.count)) in
    let law = c.members_of_all_are_vetoers.ensures.members c.args.game.now c.was_checked.ensures.game i lt in
    (λ there. law.1 (own.0 there), λ all. own.1 (law.0 all))
