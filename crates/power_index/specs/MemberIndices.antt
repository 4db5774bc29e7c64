-- Both indices of a member.
use Rattle.std.specs.Prelude.{ℕ, List}
use Rattle.council_game.specs.Game.{GameView}
use Rattle.power_index.specs.declared.member_indices.MemberIndices.{MemberIndices}
use Rattle.power_index.specs.Fractions.{lowest_terms}
use Rattle.power_index.specs.Indices.{deegan_packel, public_good}

-- the indices of member i over a list of coalitions, in lowest terms
abbrev pub indices_of_member : GameView → List ℕ → ℕ → MemberIndices
indices_of_member g list i = record {
  deegan_packel = lowest_terms (deegan_packel g list i);
  public_good = lowest_terms (public_good g list i);
}
