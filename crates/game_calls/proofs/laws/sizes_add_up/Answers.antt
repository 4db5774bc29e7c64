use Rattle.std.proofs.Common.{true}
use Rattle.council_game.specs.Members.{contains, size_of}
use Rattle.power_index.specs.Swings.{coalitions, is_critical, swings_of_size}
use Rattle.game_calls.proofs.Sizes.{all-up-to, up-to}
use Rattle.game_calls.proofs.laws.sizes_add_up.Goals as goal

pub returns-clause-all : goal.returns-clause-all
returns-clause-all c g list k = all-up-to (size_of g) list k

pub returns-clause-members : goal.returns-clause-members
returns-clause-members c g list i k = up-to (size_of g) (contains g i) list k

pub returns-clause-swings : goal.returns-clause-swings
unfolding swings_of_size
returns-clause-swings c g i k = up-to (size_of g) (λ c. is_critical g c i) (coalitions g) k
