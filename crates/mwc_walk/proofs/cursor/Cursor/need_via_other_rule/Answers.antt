use Rattle.mwc_walk.proofs.Imports.{◌<◌, length, arith, votes_of}
use Rattle.mwc_walk.proofs.Spared.{lacks-need}
use Rattle.mwc_walk.proofs.cursor.Cursor.need_via_other_rule.Goals as goal

pub returns : goal.returns
returns c = λ d prefix met.
    let is = c.requires.is in
    let other : c.args.other < length (votes_of c.args.game.now).rules = omega (arith, c.requires.other, is.rules) in
    let row = c.requires.prices.rows c.args.rule (omega (arith, c.requires.rule, is.rules)) in
    c.of.ensures _ _ (row.prices c.args.other other c.args.self.now.place d is.place.to)
    (lacks-need is c.args.set.now c.args.other _ c.requires.other c.requires.inside c.lacks.ensures d prefix met)
