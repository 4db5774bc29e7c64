use Rattle.council_report.proofs.Imports.{map, decimal, flat_map, range_with_len, table_of_member_size, with_tab, AppendsInRoom}
use Rattle.council_report.proofs.count_lines.push_counts.Given as goal

abbrev pub invariant-loop-member : goal.invariant-loop-member
invariant-loop-member l =
    AppendsInRoom l.initial.out l.out (flat_map with_tab
    (map (λ i. decimal (table_of_member_size l.counts i l.size)) (range_with_len 0 l.member)))
