-- Tables of counts, and when they hold the counts of a list of coalitions.
use Rattle.std.specs.Prelude.{ℕ, ◌+◌, ◌*◌, ◌/◌, ◌^◌, ◌≡◌, ◌≤◌, ◌<◌, ◌==◌, ◌&&◌, Bool, true, List, [], length, slice_index, slice_index_or}
use Rattle.std.specs.Prelude.{sum_by}
use Rattle.std.specs.List.{filter, range_with_len}
use Rattle.council_game.specs.declared.limits.TheConstants.{MEMBERS, SIZES}
use Rattle.council_game.specs.Votes.{has, minimal_coalitions, size}
use Rattle.council_game.specs.Game.{GameView, IsGame, votes_of}
use Rattle.power_index.specs.Counting.{count_of_size, count_of_member, count_of_member_size}

-- the rank place of each member, how many coalitions there are by size, and by rank place how many
-- contain each member
pub record Tables : Type 0 where
  pub members : ℕ
  pub ranks : List ℕ
  pub all : List ℕ
  pub each : List (List ℕ)

-- the numbers of the sizes 0 to n, added
abbrev pub total_of_sizes : ℕ → List ℕ → ℕ
total_of_sizes n sizes = sum_by (slice_index sizes) (range_with_len 0 (n + 1))

-- by size, how many coalitions contain member i
abbrev pub sizes_with_member : Tables → ℕ → List ℕ
sizes_with_member t i = slice_index_or t.each (slice_index t.ranks i) []

-- what the tables say
abbrev pub table_total : Tables → ℕ
table_total t = total_of_sizes t.members t.all

abbrev pub table_of_size : Tables → ℕ → ℕ
table_of_size t s = slice_index t.all s

abbrev pub table_of_member : Tables → ℕ → ℕ
table_of_member t i = total_of_sizes t.members (sizes_with_member t i)

abbrev pub table_of_member_size : Tables → ℕ → ℕ → ℕ
table_of_member_size t i s = slice_index (sizes_with_member t i) s

-- the numbers of all members, added
abbrev pub table_memberships : Tables → ℕ
table_memberships t = sum_by (table_of_member t) (range_with_len 0 t.members)

-- the least common multiple of the sizes 1 to 40
abbrev pub denominator : ℕ
denominator = 5342931457063200

-- the sum of f s * (d / s) for s from 1 to n: f s fractions 1 / s each, over a denominator d
abbrev pub weighted_sum : ℕ → (ℕ → ℕ) → ℕ → ℕ
weighted_sum d f n = sum_by (λ s. f s * (d / s)) (range_with_len 1 n)

-- the two indices of member i over a list of coalitions with these tables, as pairs
abbrev pub table_deegan_packel : Tables → ℕ → ℕ × ℕ
table_deegan_packel t i = (weighted_sum denominator (table_of_member_size t i) t.members, denominator * table_total t)

abbrev pub table_public_good : Tables → ℕ → ℕ × ℕ
table_public_good t i = (table_of_member t i, table_memberships t)

-- the tables hold the counts of a list of coalitions of a game
pub record AreCounts (g : GameView) (list : List ℕ) (t : Tables) : Type 0 where
  pub members : t.members ≡ length g.names
  pub total : table_total t ≡ length list
  pub of_size : (s : ℕ) → s ≤ t.members → table_of_size t s ≡ count_of_size g s list
  pub of_member : (i : ℕ) → i < t.members → table_of_member t i ≡ count_of_member g i list
  pub of_member_size : (i s : ℕ) → i < t.members → s ≤ t.members →
      table_of_member_size t i s ≡ count_of_member_size g i s list

-- the tables hold the counts of a game's minimal winning coalitions
abbrev pub AreCountsOfGame : GameView → Tables → Type 0
AreCountsOfGame g t = AreCounts g (minimal_coalitions (votes_of g)) t

-- they count those of a list, coalitions of n members, that pass a test, by size
pub record AreSizeCounts (n : ℕ) (p : ℕ → Bool) (list sizes : List ℕ) : Type 0 where
  pub long : length sizes ≡ SIZES
  pub each : (s : ℕ) → s ≤ MEMBERS →
      slice_index sizes s ≡ length (filter (λ c. p c && (size n c == s)) list)

-- the tallies are those of a list: of all, and of those that contain each rank place
pub record AreTalliesOf (n : ℕ) (list : List ℕ) (t : Tables) : Type 0 where
  pub all : AreSizeCounts n (λ _. true) list t.all
  pub each : (p : ℕ) → p < n → AreSizeCounts n (has n p) list (slice_index_or t.each p [])

-- the tables are those of a game
pub record AreOf (g : GameView) (t : Tables) : Type 0 where
  pub is_game : IsGame g
  pub members : t.members ≡ length g.names
  pub ranks : (i : ℕ) → i < t.members → slice_index t.ranks i ≡ slice_index g.ranks i

-- the tables hold a list of coalitions of a game as they are counted, by rank place
pub record AreTallies (g : GameView) (list : List ℕ) (t : Tables) : Type 0 where
  pub of_game : AreOf g t
  pub tallies : AreTalliesOf (length g.names) list t

-- two tables are of games with as many members and the same rank places
pub record AreOfOneGame (s t : Tables) : Type 0 where
  pub members : t.members ≡ s.members
  pub ranks : (i : ℕ) → i < s.members → slice_index t.ranks i ≡ slice_index s.ranks i

-- what holds of the tables of a list of coalitions of a game, none of them empty
pub record AreSound (t : Tables) : Type 0 where
  pub some_members : 1 ≤ t.members
  pub few_members : t.members ≤ MEMBERS
  pub few : table_total t ≤ 2 ^ MEMBERS
  pub few_of_size : (s : ℕ) → s ≤ t.members → table_of_size t s ≤ table_total t
  pub few_of_member : (i : ℕ) → i < t.members → table_of_member t i ≤ table_total t
  pub few_of_member_size : (i s : ℕ) → i < t.members → s ≤ t.members →
      table_of_member_size t i s ≤ table_total t
  pub memberships : table_total t ≤ table_memberships t
  pub light : (i : ℕ) → i < t.members →
      weighted_sum denominator (table_of_member_size t i) t.members ≤ denominator * table_total t
