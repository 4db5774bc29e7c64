-- The lines of a report, from counts and swings. The list that was counted need not be there.
use Rattle.std.specs.Prelude.{ℕ, List, [], ◌∷◌, ◌++◌, if◌then◌else◌, decimal, length}
use Rattle.std.specs.List.{flat_map, range_with_len}
use Rattle.std.specs.Option.{option_map_or}
use Rattle.council_game.specs.declared.report_lines.ReportLines.{ReportLines}
use Rattle.council_game.specs.Game.{GameView}
use Rattle.power_index.specs.Fractions.{lowest_terms}
use Rattle.power_index.specs.Tables.{Tables, table_of_size, table_of_member, table_of_member_size, table_deegan_packel}
use Rattle.power_index.specs.Tables.{table_public_good, table_total}
use Rattle.council_report.specs.declared.game_numbers.GameNumbers.{GameNumbers}
use Rattle.council_report.specs.Lines.{index_fields, minimal_line, size_line, member_line}
use Rattle.council_report.specs.Report.{coalition_lines, game_lines}
use Rattle.council_report.specs.SwingLines.{added_fields, winning_lines}

abbrev pub line_of_size : GameView → Tables → ℕ → List ℕ
line_of_size g t s = size_line g s (table_of_size t s) (λ i. table_of_member_size t i s)

abbrev pub fields_of_counts : Tables → ℕ → List (List ℕ)
fields_of_counts t i = decimal (table_of_member t i) ∷ index_fields (lowest_terms (table_deegan_packel t i))
    ++ index_fields (lowest_terms (table_public_good t i))

-- the fields of what is there
abbrev pub fields_of : GameNumbers → ℕ → List (List ℕ)
fields_of k i = option_map_or (λ c. fields_of_counts c.now i) k.counts [] ++ added_fields k.game.now k.swings i

abbrev pub line_of_member : GameNumbers → ℕ → List ℕ
line_of_member k i = member_line k.game.now i (fields_of k i)

abbrev pub sizes_of_counts : GameView → Tables → List ℕ
sizes_of_counts g t = flat_map (line_of_size g t) (range_with_len 1 (length g.names))

abbrev pub lines_of_sizes : ReportLines → GameNumbers → List ℕ
lines_of_sizes shown k = if shown.sizes then option_map_or (λ c. sizes_of_counts k.game.now c.now) k.counts [] else []

abbrev pub lines_of_members : GameNumbers → List ℕ
lines_of_members k = flat_map (line_of_member k) (range_with_len 0 (length k.game.now.names))

-- the heading
abbrev pub minimal_lines : GameNumbers → List ℕ
minimal_lines k = option_map_or (λ c. minimal_line (table_total c.now)) k.counts []

abbrev pub heading_of : ReportLines → GameNumbers → List ℕ
heading_of shown k = game_lines shown k.game.now ++ minimal_lines k ++ winning_lines k.game.now k.swings

-- the lines after the heading
unfoldable pub lines_of : ReportLines → GameNumbers → List ℕ → List ℕ
lines_of shown k list = coalition_lines shown k.game.now list ++ lines_of_sizes shown k ++ lines_of_members k
