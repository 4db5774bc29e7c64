use Rattle.power_index.proofs.SwingBounds.{swings-of-losing, swings-of-winning}
use Rattle.power_index.proofs.laws.swings_are_winning_and_leave_losing_coalitions.Goals as goal

pub returns-clause-winning : goal.returns-clause-winning
returns-clause-winning c g i game = swings-of-winning g game i

pub returns-clause-losing : goal.returns-clause-losing
returns-clause-losing c g i game = swings-of-losing g game i
