use Rattle.power_index.specs.Fractions.{lowest_terms}
use Rattle.power_index.specs.{SwingIndices.banzhaf, SwingIndices.penrose, SwingIndices.power_to_initiate, SwingIndices.power_to_prevent, SwingIndices.shapley_shubik, Swings.swings}
use Rattle.council_report.proofs.Fields.{fields-then, index-is, number-is}
use Rattle.council_report.proofs.Imports.{decimal, [], ◌∷◌, ◌++◌}
use Rattle.council_report.specs.{Lines.index_fields, SwingLines.swing_fields}
use Rattle.council_report.proofs.count_lines.push_swing_fields.Goals as goal

pub returns : goal.returns
unfolding swing_fields
returns c g game are =
    let i = c.args.member in
    let one = decimal (swings g i) ∷ [] in
    let first = index_fields (lowest_terms (banzhaf g i)) in
    let second = index_fields (lowest_terms (penrose g i)) in
    let third = index_fields (lowest_terms (shapley_shubik g i)) in
    let fourth = index_fields (lowest_terms (power_to_prevent g i)) in
    let fifth = index_fields (lowest_terms (power_to_initiate g i)) in
    fields-then _ _ _ (one ++ first ++ second ++ third ++ fourth) fifth
    (fields-then _ _ _ (one ++ first ++ second ++ third) fourth
    (fields-then _ _ _ (one ++ first ++ second) third (fields-then _ _ _ (one ++ first) second
    (fields-then _ _ _ one first (number-is _ _ _ _ (c.of_member.ensures.swings g game are) c.push_number.ensures)
    (index-is _ _ _ _ (c.banzhaf.ensures.terms g game are) c.push_index.ensures))
    (index-is _ _ _ _ (c.penrose.ensures.terms g game are) c.push_index-2.ensures))
    (index-is _ _ _ _ (c.shapley_shubik.ensures.terms g game are) c.push_index-3.ensures))
    (index-is _ _ _ _ (c.power_to_prevent.ensures.terms g game are) c.push_index-4.ensures))
    (index-is _ _ _ _ (c.power_to_initiate.ensures.terms g game are) c.push_index-5.ensures)
