use Rattle.mwc_states.proofs.Imports.{nat_tests, ◌∙◌, ◌+◌, [], drop, get_or, arith, map-append, IsLevel}
use Rattle.std.proofs.lemmas.List.{take_rest}
use Rattle.mwc_states.proofs.Building.{built-none, built-more, built-all}
use Rattle.mwc_states.proofs.graph.build.Goals as goal

pub loop-level-init : goal.loop-level-init
loop-level-init g c = grind (arith, nat_tests, built-none)

pub loop-level-preserved : goal.loop-level-preserved
loop-level-preserved g c =
    let members = c.args.members.now in
    let later = c.in_ok-later.ensures ∙ take_rest members (c.loop-level.level + 1) in
    let level : IsLevel c.args.what (get_or members c.loop-level.level []) (drop (c.loop-level.level + 1) members) c.loop-level.table
    c.in-Some.links.items c.decide_level.new.table = rw later at (rw c.in-Some.is at c.in_ok-links.ensures) in
    rw (c.in_ok-push-2.ensures.items, map-append) (built-more c.args.what members c.args.state.now _ c.loop-level.table c.decide_level.new.table c.in-Some.links.items
    c.loop-level.level c.loop-level.left _ c.loop-level-test.true c.loop-level.invariant level (omega (arith, c.if-len-left.false, c.len.ensures)) (omega arith))

pub returns : goal.returns
returns g c whole = built-all c.args.what c.args.members.now c.args.state.now _ c.loop-level.table c.loop-level.level c.loop-level.left
    (omega (arith, c.loop-level-test.false, c.loop-level.auto.level-end)) (c.is_last.ensures whole) c.loop-level.invariant
