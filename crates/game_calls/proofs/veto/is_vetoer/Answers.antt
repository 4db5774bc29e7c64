use Rattle.std.proofs.lemmas.Bool.Decides.{nat_tests}
use Rattle.std.proofs.Common.{arith}
use Rattle.std.proofs.lemmas.Bool.{both_ways, false_from_ne_true, not-true, not_from_false}
use Rattle.game_calls.proofs.Collecting.{needed}
use Rattle.game_calls.proofs.veto.is_vetoer.Goals as goal

pub returns : goal.returns
returns c = grind (arith, nat_tests, needed, not-true, not_from_false, false_from_ne_true, both_ways)
