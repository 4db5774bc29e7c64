use Rattle.mwc_walk.proofs.{Imports.arith, Imports.length-drop, Remains.lists-all, Remains.one-slice}
use Rattle.mwc_walk.proofs.slices.list_all.Goals as goal

pub returns-in-Some-clause-more : goal.returns-in-Some-clause-more
returns-in-Some-clause-more c = grind (arith, one-slice, length-drop)

pub returns-in-None-clause-all : goal.returns-in-None-clause-all
returns-in-None-clause-all c =
    grind (arith, lists-all c.args.game.now c.args.most c.in_ok-list.list.items c.was_checked.ensures.votes)
