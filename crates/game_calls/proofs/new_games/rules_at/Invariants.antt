use Rattle.game_calls.proofs.Quotas.{AreCopied}
use Rattle.game_calls.proofs.new_games.rules_at.Given as goal

abbrev pub invariant-loop-r : goal.invariant-loop-r
invariant-loop-r l = AreCopied l.game l.rule l.quota l.r l.rules.items
