-- The numbers of a game and its members, as C gets them.
use Rattle.std.specs.Prelude.{◌≡◌, ◌≤◌, ◌<◌, ℕ, ◌/◌, ◌%◌, ◌^◌, Bool, true, false, List, length, replicate, slice_index}
use Rattle.council_game.specs.Game.{GameView, total, votes_of}
use Rattle.council_game.specs.Votes.{minimal_coalitions, rule_at}
use Rattle.power_index.specs.Counting.{count_of_member, count_of_size}
use Rattle.power_index.specs.Fractions.{lowest_terms}
use Rattle.power_index.specs.Indices.{deegan_packel, public_good}
use Rattle.power_index.specs.SwingIndices.{banzhaf, penrose, power_to_act, power_to_initiate, power_to_prevent, shapley_shubik}
use Rattle.power_index.specs.Swings.{swings, winning_coalitions}
use Rattle.council_c.specs.declared.results.CouncilFraction.{CouncilFraction}
use Rattle.council_c.specs.declared.results.CouncilMember.{CouncilMember}
use Rattle.council_c.specs.declared.results.CouncilSummary.{CouncilSummary}
use Rattle.council_c.specs.declared.results.CouncilWide.{CouncilWide}

-- a number of 128 bits, in two words
abbrev pub words_of : ℕ → CouncilWide
words_of n = record { high = n / 2 ^ 64; low = n % 2 ^ 64 }

-- a fraction in words
abbrev pub in_words : ℕ × ℕ → CouncilFraction
in_words p = record { top = words_of p.0; bottom = words_of p.1 }

-- the minimal winning coalitions
abbrev pub minimal_of : GameView → List ℕ
minimal_of g = minimal_coalitions (votes_of g)

-- what rests on the minimal winning coalitions, for member i; the swings are 0
abbrev pub minimal_numbers : GameView → ℕ → CouncilMember
minimal_numbers g i = record {
  coalitions = count_of_member g i (minimal_of g);
  deegan_packel = in_words (lowest_terms (deegan_packel g (minimal_of g) i));
  public_good = in_words (lowest_terms (public_good g (minimal_of g) i));
  swings = 0;
  banzhaf = in_words (0, 0);
  penrose = in_words (0, 0);
  shapley_shubik = in_words (0, 0);
  prevent = in_words (0, 0);
  initiate = in_words (0, 0);
  reserved = replicate 6 0;
}

-- the numbers of member i, with or without those of its swings
abbrev pub numbers : Bool → GameView → ℕ → CouncilMember
numbers false g i = minimal_numbers g i
numbers true g i = record (minimal_numbers g i) {
  swings = swings g i;
  banzhaf = in_words (lowest_terms (banzhaf g i));
  penrose = in_words (lowest_terms (penrose g i));
  shapley_shubik = in_words (lowest_terms (shapley_shubik g i));
  prevent = in_words (lowest_terms (power_to_prevent g i));
  initiate = in_words (lowest_terms (power_to_initiate g i));
}

-- how many coalitions win, if that is asked for
abbrev pub winning_number : Bool → GameView → ℕ
winning_number false g = 0
winning_number true g = length (winning_coalitions g)

-- the power of the body to act, if that is asked for
abbrev pub act_number : Bool → GameView → CouncilFraction
act_number false g = in_words (0, 0)
act_number true g = in_words (lowest_terms (power_to_act g))

-- the numbers of the game as a whole: how many coalitions there are, by size too; how many win; the
-- total of each rule; its power to act; and no fault
pub record IsSummary (with_swings : Bool) (g : GameView) (s : CouncilSummary) : Type 0 where
  pub coalitions : s.coalitions ≡ length (minimal_of g)
  pub of_size : (k : ℕ) → k ≤ length g.names → slice_index s.of_size k ≡ count_of_size g k (minimal_of g)
  pub no_size : (k : ℕ) → length g.names < k → slice_index s.of_size k ≡ 0
  pub winning : s.winning ≡ winning_number with_swings g
  pub act : s.act ≡ act_number with_swings g
  pub reserved : s.reserved ≡ replicate 12 0
  pub totals : (r : ℕ) → r < length g.rules → slice_index s.totals r ≡ total (rule_at g.rules r)
  pub no_total : (r : ℕ) → length g.rules ≤ r → slice_index s.totals r ≡ 0
  pub no_fault : (s.fault ≡ 0) × (s.member ≡ 0) × (s.rule ≡ 0)
