use Rattle.game_calls.proofs.Quotas.{vetoes_stay}
use Rattle.game_calls.proofs.laws.higher_quotas_keep_vetoers.Goals as goal

pub returns : goal.returns
returns c = vetoes_stay
