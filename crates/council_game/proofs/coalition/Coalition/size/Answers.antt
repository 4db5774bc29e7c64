use Rattle.std.proofs.Common.{sym, ◌∙◌, ap, count_ones}
use Rattle.std.proofs.lemmas.Nat.{ones-le}
use Rattle.council_game.proofs.Sizes.{size-ones}
use Rattle.council_game.proofs.coalition.Coalition.size.Goals as goal

pub returns-clause-size : goal.returns-clause-size
returns-clause-size c n below = ap count_ones c.self.view_is ∙ sym (size-ones n c.args.self below)

pub returns-clause-bound : goal.returns-clause-bound
returns-clause-bound c = ones-le 40 c.self.inside.mask c.self.invariant
