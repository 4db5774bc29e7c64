-- A winning coalition has a minimal winning subset.
use Rattle.std.proofs.Common.{◌≡◌, ℕ, suc, true, arith}
use Rattle.council_game.specs.Votes.{Votes, IsVotes, wins}
use Rattle.council_game.proofs.Shared.{Listing.listed-is, Subsets.wins-mono, Subsets.digits-less, Subsets.minimal-inside}
use Rattle.game_calls.specs.Winning.{IsSubset, HasMinimalSubsets, HasVetoersInAll, HasMinimalSubsetOf, IsInAll, IsVetoer}
use Rattle.std.proofs.Common.{◌<◌, ◌^◌, ◌↔◌, length, get_or}
use Rattle.std.proofs.lemmas.{Bool.and_parts, List.Elements.Contains-get_or}
use Rattle.council_game.specs.{Game.GameView, Game.IsGame, Game.votes_of, Members.IsSubsetOf, Votes.minimal_coalitions}
unfoldable pub use Rattle.council_game.specs.Votes.{minimal}
use Rattle.council_game.proofs.Shared.{Games.votes-are, Making.ranks-are, Sets.places-within, Sets.subset-size}

pub larger_wins : (v : Votes) → IsVotes v → (a c : ℕ) → IsSubset v.members a c → wins v a ≡ true → wins v c ≡ true
larger_wins v game a c inside won = wins-mono v a c game (digits-less v.members a c inside) won

pub minimal_subsets : (v : Votes) → IsVotes v → HasMinimalSubsets v
minimal_subsets v game c below won =
    let found = minimal-inside v (suc c) c (omega arith) won in
    record { subset = found.0; listed = (listed-is v found.0).1 (omega (arith, below, found.1), found.2); inside = found.3 }

pub vetoers_in_all : (v : Votes) → IsVotes v → HasVetoersInAll v
vetoers_in_all v game p lt all c below won =
    let found = minimal_subsets v game c below won in grind (arith)

-- ---- of a game, member by member
pub larger_wins-of : (g : GameView) → IsGame g → (a c : ℕ) → IsSubsetOf g a c → wins (votes_of g) a ≡ true
    → wins (votes_of g) c ≡ true
larger_wins-of g is a c inside won = larger_wins (votes_of g) (votes-are g is) a c (places-within g is a c inside) won

pub minimal_subsets-of : (g : GameView) → IsGame g → (c : ℕ) → c < 2 ^ length g.names → wins (votes_of g) c ≡ true
    → HasMinimalSubsetOf g c
minimal_subsets-of g is c below won =
    let found = minimal_subsets (votes_of g) (votes-are g is) c below won in
    record {
      subset = found.subset;
      listed = found.listed;
      inside = λ i lt there. found.inside (get_or g.ranks i 0) ((ranks-are g is).place_below i lt) there;
    }

pub vetoers-of : (g : GameView) → IsGame g → (i : ℕ) → i < length g.names → IsInAll g i ↔ IsVetoer g i
unfolding minimal
vetoers-of g is i lt = (
  λ all c below won. vetoers_in_all (votes_of g) (votes-are g is) (get_or g.ranks i 0) ((ranks-are g is).place_below i lt) all c below won,
  λ needed k d at.
      let m : ℕ = get_or (minimal_coalitions (votes_of g)) k d in
      let both = (listed-is (votes_of g) m).0 (Contains-get_or (minimal_coalitions (votes_of g)) k d at) in
      needed m both.0 (and_parts _ _ both.1).0,
)

pub ruleset larger = (larger_wins, larger_wins-of)

pub ruleset minimal_ones = (minimal_subsets, minimal_subsets-of)

pub ruleset subset_sizes = (subset-size)
