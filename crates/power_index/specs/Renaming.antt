-- Counts, swings and indices of renamed members.
use Rattle.std.specs.Prelude.{ℕ, ◌≡◌, ◌<◌, length}
use Rattle.council_game.specs.Game.{GameView, votes_of}
use Rattle.council_game.specs.Votes.{minimal_coalitions}
use Rattle.power_index.specs.MemberIndices.{indices_of_member}
use Rattle.power_index.specs.Counting.{count_of_size, count_of_member, count_of_member_size}
use Rattle.power_index.specs.SwingIndices.{swing_indices}
use Rattle.power_index.specs.Swings.{swings, swings_of_size, winning_coalitions}

-- the minimal winning coalitions of two games have the same counts, those of a member under its new
-- name, and each member has the same indices
pub record HaveRenamedCounts (to : ℕ → ℕ) (g h : GameView) : Type 0 where
  pub total : length (minimal_coalitions (votes_of g)) ≡ length (minimal_coalitions (votes_of h))
  pub of_size : (s : ℕ) → count_of_size g s (minimal_coalitions (votes_of g)) ≡ count_of_size h s (minimal_coalitions (votes_of h))
  pub of_member : (i : ℕ) → i < length g.names
      → count_of_member g i (minimal_coalitions (votes_of g)) ≡ count_of_member h (to i) (minimal_coalitions (votes_of h))
  pub of_member_size : (i s : ℕ) → i < length g.names
      → count_of_member_size g i s (minimal_coalitions (votes_of g)) ≡ count_of_member_size h (to i) s (minimal_coalitions (votes_of h))
  pub indices : (i : ℕ) → i < length g.names
      → indices_of_member g (minimal_coalitions (votes_of g)) i ≡ indices_of_member h (minimal_coalitions (votes_of h)) (to i)

-- as many coalitions win in two games, and each member has the swings of its new name, by size too,
-- and the indices that rest on them
pub record HaveRenamedSwings (to : ℕ → ℕ) (g h : GameView) : Type 0 where
  pub winning : length (winning_coalitions g) ≡ length (winning_coalitions h)
  pub of_member : (i : ℕ) → i < length g.names → swings g i ≡ swings h (to i)
  pub of_member_size : (i s : ℕ) → i < length g.names → swings_of_size g i s ≡ swings_of_size h (to i) s
  pub indices : (i : ℕ) → i < length g.names → swing_indices g i ≡ swing_indices h (to i)
