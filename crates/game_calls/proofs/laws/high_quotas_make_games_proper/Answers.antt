use Rattle.game_calls.proofs.Weighing.{one_high, shared_high}
use Rattle.game_calls.proofs.laws.high_quotas_make_games_proper.Goals as goal

pub returns-clause-ways : goal.returns-clause-ways
returns-clause-ways c = shared_high

pub returns-clause-one : goal.returns-clause-one
returns-clause-one c = one_high
