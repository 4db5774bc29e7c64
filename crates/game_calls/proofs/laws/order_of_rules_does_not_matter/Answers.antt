use Rattle.game_calls.proofs.Ways.{permuted, reordered}
use Rattle.game_calls.proofs.laws.order_of_rules_does_not_matter.Goals as goal

pub returns-clause-ways : goal.returns-clause-ways
returns-clause-ways c = reordered

pub returns-clause-one : goal.returns-clause-one
returns-clause-one c = permuted
