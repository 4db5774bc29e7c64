use Rattle.std.proofs.lemmas.Nat.{or_lt}
use Rattle.council_game.proofs.Common.{has-or}
use Rattle.council_game.proofs.coalition.Coalition.union.Goals as goal

pub invariant_of-result : goal.invariant_of-result
invariant_of-result c = or_lt 40 c.self.inside.mask c.other.inside.mask c.self.invariant c.other.invariant

pub returns-clause-members : goal.returns-clause-members
returns-clause-members c = rw (c.self.view_is, c.other.view_is) (λ n p. has-or n p c.args.self c.args.other)

pub returns-clause-below : goal.returns-clause-below
returns-clause-below c = rw (c.self.view_is, c.other.view_is) (λ n. or_lt n c.args.self c.args.other)
