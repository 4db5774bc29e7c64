use Rattle.std.proofs.Common.{◌≡◌, length, map, take}
use Rattle.council_game.specs.{Game.votes_of, Votes.minimal_coalitions}
use Rattle.game_calls.specs.Quotas.{at_quota}
use Rattle.examples.proofs.counts.counts_at_quotas.Given as goal

abbrev pub invariant-loop-quota : goal.invariant-loop-quota
invariant-loop-quota l = l.counts.items
    ≡ map (λ q. length (minimal_coalitions (votes_of (at_quota l.game q)))) (take l.quota-index l.quotas)
