use Rattle.power_index.specs.{Fractions.lowest_terms, Tables.table_deegan_packel, Tables.table_of_member, Tables.table_public_good}
use Rattle.council_report.proofs.Fields.{fields-then, index-is, number-is}
use Rattle.council_report.proofs.Imports.{decimal, [], ◌∷◌, ◌++◌}
use Rattle.council_report.specs.Lines.{index_fields}
use Rattle.council_report.proofs.count_lines.push_count_fields.Goals as goal

pub returns : goal.returns
returns c =
    let t = c.args.counts.now in
    let i = c.args.member in
    let one = decimal (table_of_member t i) ∷ [] in
    let first = index_fields (lowest_terms (table_deegan_packel t i)) in
    let second = index_fields (lowest_terms (table_public_good t i)) in
    fields-then _ _ _ (one ++ first) second (fields-then _ _ _ one first (number-is _ _ _ _ c.wide_of_member.ensures.count c.push_number.ensures)
    (index-is _ _ _ _ (c.deegan_packel.ensures.tables c.requires.some) c.push_index.ensures))
    (index-is _ _ _ _ (c.public_good.ensures.tables c.requires.some) c.push_index-2.ensures)
