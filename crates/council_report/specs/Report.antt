-- The report of a game, as a function of its title, names and numbers and of its minimal winning
-- coalitions.
use Rattle.std.specs.Prelude.{ℕ, List, [], ◌∷◌, ◌++◌, if◌then◌else◌, decimal, length}
use Rattle.std.specs.List.{flat_map, range_with_len}
use Rattle.council_game.specs.declared.report_lines.ReportLines.{ReportLines}
use Rattle.council_game.specs.Votes.{minimal_coalitions}
use Rattle.council_game.specs.Game.{GameView, votes_of}
use Rattle.power_index.specs.Counting.{members, count_of_size, count_of_member, count_of_member_size}
use Rattle.power_index.specs.Fractions.{lowest_terms}
use Rattle.power_index.specs.Indices.{deegan_packel, public_good}
use Rattle.council_report.specs.Lines.{title_line, members_line, quota_line, total_line, ways_line, notation_line, minimal_line, coalition_line}
use Rattle.council_report.specs.Lines.{index_fields, size_line, member_line}

abbrev pub notation_lines : ReportLines → GameView → List ℕ
notation_lines shown g = if shown.notation then flat_map notation_line g.rules else []

-- the lines of the game itself
abbrev pub game_lines : ReportLines → GameView → List ℕ
game_lines shown g = title_line g ++ members_line g ++ quota_line g ++ total_line g ++ ways_line g ++ notation_lines shown g

abbrev pub coalition_lines : ReportLines → GameView → List ℕ → List ℕ
coalition_lines shown g list = if shown.list then flat_map (coalition_line g) list else []

-- size s and its counts
abbrev pub size_line_of : GameView → List ℕ → ℕ → List ℕ
size_line_of g list s = size_line g s (count_of_size g s list) (λ i. count_of_member_size g i s list)

abbrev pub size_lines : ReportLines → GameView → List ℕ → List ℕ
size_lines shown g list = if shown.sizes then flat_map (size_line_of g list) (range_with_len 1 (length g.names)) else []

-- how many coalitions contain member i, and its two indices
abbrev pub count_fields : GameView → List ℕ → ℕ → List (List ℕ)
count_fields g list i = decimal (count_of_member g i list) ∷ index_fields (lowest_terms (deegan_packel g list i))
    ++ index_fields (lowest_terms (public_good g list i))

abbrev pub member_lines : GameView → (ℕ → List (List ℕ)) → List ℕ
member_lines g fields = flat_map (λ i. member_line g i (fields i)) (members g)

-- The report over a list of coalitions. After their number comes a text, and after the fields of
-- each member more fields; both may be empty.
abbrev pub report_with : List ℕ → (ℕ → List (List ℕ)) → ReportLines → GameView → List ℕ → List ℕ
report_with text fields shown g list = game_lines shown g ++ minimal_line (length list) ++ text
    ++ (coalition_lines shown g list ++ size_lines shown g list ++ member_lines g (λ i. count_fields g list i ++ fields i))

abbrev pub report_over : ReportLines → GameView → List ℕ → List ℕ
report_over shown g list = report_with [] (λ i. []) shown g list

-- the report of a game: that over its minimal winning coalitions
abbrev pub report : ReportLines → GameView → List ℕ
report shown g = report_over shown g (minimal_coalitions (votes_of g))
