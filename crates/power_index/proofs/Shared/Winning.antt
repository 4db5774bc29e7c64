-- The winning coalitions of a game can be counted: none is empty.
use Rattle.std.proofs.Common.{◌≡◌, ◌≢◌, ℕ, ◌^◌, ◌<◌, ◌≤◌, true, length, get_or, sym, ap, ◌∙◌, arith, pow_pos, pow_mono, inl, inr}
use Rattle.std.proofs.lemmas.{Bool.cases_eq, List.Elements.All-contains, List.Elements.All-filter, List.Elements.filter_passes}
use Rattle.council_game.specs.{Game.GameView, Game.IsGame, Game.AreNonemptyCoalitions, Game.votes_of, Votes.down, Votes.wins, Votes.minimal_coalitions}
use Rattle.council_game.proofs.Shared.{Games.few-members, Games.votes-are, Listing.down-below, Listing.listed-is, Listing.listing-is, Subsets.minimal-inside}
use Rattle.power_index.specs.Swings.{winning_coalitions}
use Rattle.power_index.proofs.SwingBounds.{some-lose}

module _ (g : GameView) (game : IsGame g) where
  pub none-wins : wins (votes_of g) 0 ≡ true → ⊥
  none-wins empty-wins =
      let inside = minimal-inside (votes_of g) 1 0 (omega arith) empty-wins in
      let none : inside.0 ≡ 0 = omega (arith, inside.1) in
      All-contains (λ c. c ≢ 0) (minimal_coalitions (votes_of g)) inside.0 (listing-is (votes_of g) (votes-are g game)).none_empty
      ((listed-is (votes_of g) inside.0).1 (omega (arith, none, pow_pos (length g.names)), inside.2)) none

  pub winning-are-coalitions : AreNonemptyCoalitions g (winning_coalitions g)
  unfolding winning_coalitions
  winning-are-coalitions k d lt =
      let n : ℕ = 2 ^ length g.names in
      let c : ℕ = get_or (winning_coalitions g) k d in
      let won = filter_passes (wins (votes_of g)) (down n) k d lt in
      let below = All-filter (wins (votes_of g)) (λ x. x < n) (down n) (down-below n n (omega arith)) k d lt in
      elim (cases_eq c 0) [
        | inl empty ↦ absurd (none-wins (sym (ap (wins (votes_of g)) empty) ∙ won))
        | inr some ↦ (omega (arith, some), below)
      ]

  pub winning-few : length (winning_coalitions g) ≤ 2 ^ 40
  winning-few = let most = pow_mono (few-members g game) in omega (arith, some-lose g game, most)
