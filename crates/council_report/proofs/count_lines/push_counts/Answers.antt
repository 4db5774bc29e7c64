use Rattle.council_report.proofs.Imports.{ℕ, List, map, decimal, flat_map, range_with_len, arith, ap, ◌∙◌, common_steps}
use Rattle.council_report.proofs.Imports.{table_of_member_size, with_tab}
use Rattle.std.proofs.{Common.zero-add, lemmas.List.FromFn.map-range_with_len_more}
use Rattle.council_report.proofs.Turns.{rows-more}
use Rattle.council_report.proofs.count_lines.push_counts.Goals as goal

pub loop-member-preserved : goal.loop-member-preserved
loop-member-preserved c =
    let text : ℕ → List ℕ = λ i. decimal (table_of_member_size c.args.counts.now i c.args.size) in
    let k : ℕ = c.loop-member.member in
    let more = ap (flat_map with_tab) (map-range_with_len_more text 0 k k (zero-add k))
    ∙ rows-more with_tab (map text (range_with_len 0 k)) (text k) in grind (arith, common_steps)
