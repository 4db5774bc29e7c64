-- What the definitions of weight and minimal say of each member.
use Rattle.council_game.proofs.Imports.{not, length, slice_index, sym, list_all, and_parts, and_from, sum-map, Votes, has, without, wins}
use Rattle.council_game.proofs.Imports.{weight, places_of, minimal}
use Rattle.std.proofs.lemmas.Bool.{not-true, not_from_false}
use Rattle.council_game.specs.Laws.{WeighsItsMembers, NeedsEachMember}
use Rattle.council_game.proofs.Places.{each-place, all-places}

pub weighs-its-members : WeighsItsMembers
unfolding weight
weighs-its-members ws c = sym (sum-map (slice_index ws) (places_of (length ws) c))

pub needs-each-member : (v : Votes) → NeedsEachMember v
unfolding minimal
needs-each-member v c = (
  λ min.
      let parts = and_parts (wins v c) (list_all (λ p. not (wins v (without v.members p c))) (places_of v.members c)) min in (
        parts.0,
        λ p below inside. not-true _
            (each-place (λ i. has v.members i c) (λ i. not (wins v (without v.members i c))) v.members p parts.1 below inside),
      ),
  λ both. and_from (wins v c) (list_all (λ p. not (wins v (without v.members p c))) (places_of v.members c)) both.0
      (all-places (λ i. has v.members i c) (λ i. not (wins v (without v.members i c))) v.members
      (λ p below inside. not_from_false _ (both.1 p below inside))),
)
