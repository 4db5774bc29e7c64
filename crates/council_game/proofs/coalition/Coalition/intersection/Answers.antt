use Rattle.council_game.proofs.Common.{has-and}
use Rattle.council_game.proofs.coalition.Coalition.intersection.Goals as goal

pub returns-clause-members : goal.returns-clause-members
returns-clause-members c = rw (c.self.view_is, c.other.view_is) (λ n p. has-and n p c.args.self c.args.other)
