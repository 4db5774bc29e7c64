use Rattle.game_calls.proofs.Quotas.{another_quota}
use Rattle.game_calls.proofs.laws.quotas_can_be_changed.Goals as goal

pub returns : goal.returns
returns c = another_quota
