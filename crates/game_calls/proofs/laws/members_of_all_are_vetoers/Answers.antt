use Rattle.game_calls.proofs.Minimal.{vetoers_in_all, vetoers-of}
use Rattle.game_calls.proofs.laws.members_of_all_are_vetoers.Goals as goal

pub returns-clause-votes : goal.returns-clause-votes
returns-clause-votes c = vetoers_in_all

pub returns-clause-members : goal.returns-clause-members
returns-clause-members c = vetoers-of
