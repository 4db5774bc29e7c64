use Rattle.council_game.proofs.Imports.{◌≡◌, length, map, filter, range_with_len, member_at, has}
use Rattle.council_game.proofs.game.Game.members_of.Given as goal

abbrev pub invariant-loop-place : goal.invariant-loop-place
invariant-loop-place l = l.members.items ≡ map (member_at l.self.ranks)
    (filter (λ p. has (length l.self.names) p l.coalition) (range_with_len 0 l.place))
