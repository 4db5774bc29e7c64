use Rattle.game_calls.specs.Winning.{IsVetoer}
use Rattle.game_calls.proofs.Collecting.{Collects}
use Rattle.game_calls.proofs.veto.vetoers.Given as goal

abbrev pub invariant-loop-member : goal.invariant-loop-member
invariant-loop-member l = Collects l.game (IsVetoer l.game) l.member l.vetoers
