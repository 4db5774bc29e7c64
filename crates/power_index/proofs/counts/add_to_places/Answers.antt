use Rattle.council_game.specs.Votes.{without}
use Rattle.power_index.proofs.Imports.{nat_tests, cases_eq, common_steps, arith, get_or, lowest-place}
use Rattle.std.proofs.{Common.get_or-set_same, lemmas.Bool.both_ways, lemmas.Bool.cond-true}
use Rattle.council_game.proofs.Shared.Digits.{lowest-cleared, has-gone, has-kept, has-none}
use Rattle.power_index.proofs.counts.add_to_places.Goals as goal

pub overflow_sub-place-in-loop-rest : goal.overflow_sub-place-in-loop-rest
overflow_sub-place-in-loop-rest c =
    let next = lowest-place c.args.members c.loop-rest.rest c.requires.few (omega arith) c.loop-rest.invariant.below in
    omega (arith, next.0)

pub overflow_add-by_place : goal.overflow_add-by_place
overflow_add-by_place c = grind (arith, get_or, lowest-place)

pub loop-rest-preserved : goal.loop-rest-preserved
unfolding without
loop-rest-preserved c =
    let next = lowest-place c.args.members c.loop-rest.rest c.requires.few (omega arith) c.loop-rest.invariant.below in
    let left = lowest-cleared c.args.members c.loop-rest.rest c.requires.few (omega arith) c.loop-rest.invariant.below in
    grind (arith, nat_tests, common_steps, both_ways, cases_eq, cond-true, get_or-set_same, has-gone, has-kept)

pub returns : goal.returns
returns c p lt = grind (arith, has-none)
