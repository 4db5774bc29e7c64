use Rattle.council_game.proofs.Shared.Digits.{same-places}
use Rattle.council_game.proofs.Shared.Sets.{set-one}
use Rattle.game_calls.proofs.laws.same_members_are_one_coalition.Goals as goal

pub returns-clause-places : goal.returns-clause-places
returns-clause-places c = same-places

pub returns-clause-members : goal.returns-clause-members
returns-clause-members c = set-one
