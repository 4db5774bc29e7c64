use Rattle.mwc_walk.proofs.Spared.{lacks-need}
use Rattle.mwc_walk.proofs.cursor.Cursor.need.Goals as goal

pub loop-other-init : goal.loop-other-init
loop-other-init c = lacks-need c.requires.is c.args.set.now c.args.rule _ c.requires.rule c.requires.inside c.lacks-need.ensures
