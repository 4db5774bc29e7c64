-- The lines and fields of swings, and the reports that show them.
use Rattle.std.specs.Prelude.{ℕ, List, [], ◌∷◌, ◌++◌, Option, codes, decimal, length}
use Rattle.std.specs.Option.{option_map_or}
use Rattle.council_game.specs.declared.report_lines.ReportLines.{ReportLines}
use Rattle.council_game.specs.Votes.{minimal_coalitions}
use Rattle.council_game.specs.Game.{GameView, votes_of}
use Rattle.power_index.specs.Fractions.{lowest_terms}
use Rattle.power_index.specs.Swings.{swings, winning_coalitions}
use Rattle.power_index.specs.SwingIndices.{banzhaf, penrose, power_to_act, power_to_initiate, power_to_prevent, shapley_shubik}
use Rattle.council_report.specs.Lines.{index_fields, line}
use Rattle.council_report.specs.Report.{game_lines, member_lines, report_with}

-- the number of winning coalitions
unfoldable pub winning_line : GameView → List ℕ
winning_line g = line (codes "winning") (decimal (length (winning_coalitions g)) ∷ [])

-- Coleman's power of the body to act
unfoldable pub act_line : GameView → List ℕ
act_line g = line (codes "act") (index_fields (lowest_terms (power_to_act g)))

-- both
abbrev pub winning_heading : GameView → List ℕ
winning_heading g = winning_line g ++ act_line g

-- the swings of member i, its Banzhaf index, Penrose's measure, its Shapley-Shubik index, and
-- Coleman's powers to prevent action and to initiate it
unfoldable pub swing_fields : GameView → ℕ → List (List ℕ)
swing_fields g i = decimal (swings g i) ∷ index_fields (lowest_terms (banzhaf g i)) ++ index_fields (lowest_terms (penrose g i))
    ++ index_fields (lowest_terms (shapley_shubik g i)) ++ index_fields (lowest_terms (power_to_prevent g i))
    ++ index_fields (lowest_terms (power_to_initiate g i))

-- the report of a game with its swings
abbrev pub report_with_swings : ReportLines → GameView → List ℕ
report_with_swings shown g = report_with (winning_heading g) (swing_fields g) shown g (minimal_coalitions (votes_of g))

-- the report of only its swings
abbrev pub swings_report : ReportLines → GameView → List ℕ
swings_report shown g = game_lines shown g ++ winning_heading g ++ member_lines g (swing_fields g)

-- what swings add to a report, if they are there
abbrev pub winning_lines : {S : Type 0} → GameView → Option S → List ℕ
winning_lines g swings = option_map_or (λ s. winning_heading g) swings []

abbrev pub added_fields : {S : Type 0} → GameView → Option S → ℕ → List (List ℕ)
added_fields g swings i = option_map_or (λ s. swing_fields g i) swings []
